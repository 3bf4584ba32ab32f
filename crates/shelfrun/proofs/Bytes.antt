-- Bytes of the input: what they print and leave, one after the other. Assumes nothing.
use mathlib.Core.Path.{◌≡◌, refl, sym, ap, subst, ◌∙◌}
use mathlib.Core.Bool.{Bool, true, false}
use mathlib.Core.List.{List, [], ◌∷◌, ◌++◌, append_assoc, append-nil}
use mathlib.Core.Option.{Option, none, some}
use Prim.Native.Nat.{ℕ, suc, ◌+◌, ◌≤◌, ◌<◌}
use native.Mathlib.Numerals.{add-one}
use native.Mathlib.Omega.{arith}
use lib.ListN.{length, take, get_or, length-take}
use lib.Seq.{length-take-le, take-suc, take-append-add, take-append-le}
use borrow.Author.Tests.{ne_eqb}
use Rattle.basics.proofs.Lists.{length-list_of}
use Rattle.machine.specs.Stripe.{Stripe, Answer, number}
use Rattle.machine.specs.Calls.{Call}
use Rattle.script.specs.Lines.{call, shelf_line, shelf_call, printed, shown}
use Rattle.script.specs.Reading.{clipped, call_in, HasRead, Takes, Ends}
use Rattle.script.specs.Writing.{Put}
use Rattle.std.specs.Prelude.{Option as Known}
use Rattle.script.specs.declared.reader.Line.{Line}
use Rattle.script.specs.declared.reader.LineReader.{LineReader}
use Rattle.script.specs.declared.writer.Event.{Event}
use Rattle.script.proofs.Clipping.{Small, clip-call, clip-shelf, clip-event}
use Rattle.step.specs.declared.Stripe as Player
use Rattle.step.specs.View.{stripe_of}
use Rattle.shelfrun.specs.Shelfrun.{State, start, sizes, outcome, output, is_begun, line_output, byte_output, byte_left, output_of, left, last_output, shelfrun}
use Rattle.shelfrun.specs.Feeding.{Answers, Is, Kept, Feeds, Reached}
use Rattle.shelfrun.proofs.Turns.{one_byte}

---- bytes after bytes

output-append : (x : State) (l m : List ℕ) → output_of x (l ++ m) ≡ output_of x l ++ output_of (left x l) m
unfolding output_of left
output-append x [] m = refl
output-append x (b ∷ l) m =
    ap (λ (t : List ℕ). byte_output x b ++ t) (output-append (byte_left x b) l m)
    ∙ sym (append_assoc (byte_output x b) (output_of (byte_left x b) l) (output_of (left (byte_left x b) l) m))

left-append : (x : State) (l m : List ℕ) → left x (l ++ m) ≡ left (left x l) m
unfolding left
left-append x [] m = refl
left-append x (b ∷ l) m = left-append (byte_left x b) l m

pub feeds-none : (kept : State → Type 0) → Feeds kept [] [] kept
unfolding output_of left
feeds-none kept = record { prints = λ x k. refl; leaves = λ x k. k }

pub feeds-then : {a b c : State → Type 0} {l m t u : List ℕ} → Feeds a l t b → Feeds b m u c → Feeds a (l ++ m) (t ++ u) c
feeds-then {c = c} {l = l} {m = m} p q = record {
  prints = λ x k. (λ i. p.prints x k i ++ q.prints (left x l) (p.leaves x k) i) ∙ sym (output-append x l m);
  leaves = λ x k. subst c (sym (left-append x l m)) (q.leaves (left x l) (p.leaves x k));
}

---- a byte within a line

begun_more : (l : List ℕ) (byte : ℕ) → is_begun (l ++ byte ∷ []) ≡ true
begun_more [] byte = refl
begun_more (b ∷ l) byte = refl

pub within-line : {lines byte : ℕ} {begun : Bool} {reader next : LineReader} {value after : List ℕ} {s : Stripe} → (byte ≡ 10 → ⊥)
    → Takes reader value byte next after → Feeds (Kept lines begun reader value s) (byte ∷ []) [] (Kept lines true next after s)
unfolding output_of left
within-line {byte = byte} other t = record {
  prints = λ x k. rw (ne_eqb byte 10 other);
  leaves =
      λ x k.
      rw (ne_eqb byte 10 other)
      record {
        begins = sym (begun_more x.line byte);
        is = record { count = k.is.count; line = t.holds x.line k.is.line; stripe = k.is.stripe };
      };
}

---- the end of a line

-- the event and the byte shown do not go by what is clipped
clip-output : (n : ℕ) (x : Option Call) (a : Answer) → output n (clipped 1 x) a ≡ output n x a
clip-output n none a = refl
clip-output n (some x) a = ap (λ (event : Known Event). printed n event (number a) (shown a)) (clip-event 1 x a)

clip-outcome : (x : Option Call) (s : Stripe) → Small sizes s → outcome (clipped 1 x) s ≡ outcome x s
clip-outcome none s small = refl
clip-outcome (some x) s small = clip-call sizes s small 1 (omega arith) x

clip-answers : {before after : List ℕ} {end : ℕ} {s' : Stripe} (n : ℕ) (x : Option Call) (s : Stripe) → Small sizes s
    → Answers n (clipped 1 x) s before after end s' → Answers n x s before after end s'
clip-answers {before = before} {after = after} {end = end} n x s small a =
    let e = clip-outcome x s small in
    record {
      text =
          subst (λ (t : List ℕ). Put before 0 t after end) (clip-output n x (outcome (clipped 1 x) s).answer ∙ (λ i. output n x (e i).answer)) a.text;
      left = a.left ∙ (λ i. (e i).after);
    }

pub small : (stripe : Player.Stripe) (blocks spare differences : List ℕ) → Small sizes (stripe_of sizes stripe blocks spare differences)
small stripe blocks spare differences = record {
  positions = omega arith;
  nodes = omega arith;
  clients = omega arith;
  node_records = rw (length-list_of 4) (omega arith);
  client_records = rw (length-list_of 2) (omega arith);
}

-- the line that a reader tells is the line that was read, as shelfrun has it
pub line-answered : {x : State} {lines value end : ℕ} {reader : LineReader} {line : Known Line} {told : Option Call} {s s' : Stripe} {before after : List ℕ}
    → Small sizes s → Ends reader line → told ≡ shelf_line (call_in line (value ∷ []))
    → Answers (lines + 1) told s before after end s' → Is x lines reader (value ∷ []) s
    → Answers (suc x.lines) (shelf_call x.line) x.stripe before after end s'
line-answered {x = x} {lines = lines} {value = value} {end = end} {told = told} {s = s} {s' = s'} {before = before} {after = after} few e is a k =
    subst (λ (z : Stripe). Answers (suc x.lines) (shelf_call x.line) z before after end s') k.stripe
    (clip-answers (suc x.lines) (shelf_call x.line) s few
    (subst (λ (c : Option Call). Answers (suc x.lines) c s before after end s')
    (is ∙ ap shelf_line (e.tells x.line (value ∷ []) k.line) ∙ clip-shelf 1 (call x.line))
    (subst (λ (n : ℕ). Answers n told s before after end s') (add-one lines ∙ ap suc k.count) a)))

pub at-end : {lines byte end : ℕ} {begun : Bool} {reader next : LineReader} {value before after : List ℕ} {s s' : Stripe} → byte ≡ 10 → length value ≡ 1
    → ((value : List ℕ) → HasRead [] next value)
    → ((x : State) → Is x lines reader (get_or value 0 0 ∷ []) s → Answers (suc x.lines) (shelf_call x.line) x.stripe before after end s')
    → Feeds (Kept lines begun reader value s) (byte ∷ []) (take end after) (Kept (lines + 1) false next value s')
unfolding output_of left
at-end {lines = lines} {reader = reader} {value = value} {s = s} lf one new a =
    let same : (x : State) → Is x lines reader value s → Is x lines reader (get_or value 0 0 ∷ []) s =
    λ x k. subst (λ (v : List ℕ). Is x lines reader v s) (one_byte value one) k in
    record {
      prints = λ x k. rw lf ((a x (same x k.is)).text.bytes ∙ sym (append-nil (line_output x)));
      leaves =
          λ x k.
          rw lf
          record {
            begins = refl;
            is = record { count = add-one lines ∙ ap suc k.is.count; line = new value; stripe = (a x (same x k.is)).left };
          };
    }

---- the buffer of the output

-- text put at the start of a buffer is no longer than the buffer
pub put-fits : {before after text : List ℕ} {end : ℕ} → Put before 0 text after end → end ≤ length after
put-fits {after = after} {end = end} p = omega (arith, p.end, ap length p.bytes, length-take end after)

-- the start of a part that was put in, after what stands before it
take_part : (out : List ℕ) (at : ℕ) (part rest : List ℕ) (end : ℕ) → at ≤ length out → end ≤ length part
    → take (at + end) (take at out ++ (part ++ rest)) ≡ take at out ++ take end part
take_part out at part rest end h fits =
    ap (λ (m : ℕ). take (m + end) (take at out ++ (part ++ rest))) (sym (length-take-le at out h))
    ∙ take-append-add (take at out) (part ++ rest) end
    ∙ ap (λ (t : List ℕ). take at out ++ t) (take-append-le end part rest fits)

-- one byte more: it prints nothing, or what stands at the start of the part that begins at `at`
module _ {a b c : State → Type 0} (input : List ℕ) (i : ℕ) (out : List ℕ) (at : ℕ) (fed : Feeds a (take i input) (take at out) b) (more : i < length input) where
  one_more : {t : List ℕ} → Feeds b (get_or input i 0 ∷ []) t c → Feeds a (take (i + 1) input) (take at out ++ t) c
  one_more {t = t} f =
      subst (λ (l : List ℕ). Feeds a l (take at out ++ t) c) (sym (ap (λ (m : ℕ). take m input) (add-one i) ∙ take-suc input i 0 more)) (feeds-then fed f)

  pub silent-byte : Feeds b (get_or input i 0 ∷ []) [] c → Feeds a (take (i + 1) input) (take at out) c
  silent-byte f = subst (λ (t : List ℕ). Feeds a (take (i + 1) input) t c) (append-nil (take at out)) (one_more f)

  pub line-byte : (part rest : List ℕ) (end : ℕ) → at ≤ length out → end ≤ length part → Feeds b (get_or input i 0 ∷ []) (take end part) c
      → Feeds a (take (i + 1) input) (take (at + end) (take at out ++ (part ++ rest))) c
  line-byte part rest end room fits f =
      subst (λ (t : List ℕ). Feeds a (take (i + 1) input) t c) (sym (take_part out at part rest end room fits)) (one_more f)

-- all bytes
pub fed-all : {a : State → Type 0} {input all text : List ℕ} {lines : ℕ} {begun : Bool} {reader : LineReader} {value : List ℕ} {s : Stripe} → input ≡ all
    → length value ≡ 1 → Feeds a input text (Kept lines begun reader value s) → Feeds a all text (Kept lines begun reader (get_or value 0 0 ∷ []) s)
fed-all {a = a} {all = all} {text = text} {lines = lines} {begun = begun} {reader = reader} {value = value} {s = s} e one f =
    subst (λ (v : List ℕ). Feeds a all text (Kept lines begun reader v s)) (one_byte value one)
    (subst (λ (l : List ℕ). Feeds a l text (Kept lines begun reader value s)) e f)

---- from the start

pub reached-more : {a b : State → Type 0} {l t : List ℕ} → Reached a → Feeds a l t b → Reached b
reached-more {l = l} {t = t} r f = record { input = r.input ++ l; text = r.text ++ t; fed = feeds-then r.fed f }

-- However the input came in pieces, what they print and the last line together are what shelfrun prints.
pub whole : {kept : State → Type 0} (r : Reached kept) (last : List ℕ) → ((x : State) → kept x → last ≡ last_output x) → r.text ++ last ≡ shelfrun r.input
unfolding shelfrun
whole r last e = λ i. r.fed.prints start refl i ++ e (left start r.input) (r.fed.leaves start refl) i
