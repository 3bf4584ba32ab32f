-- Text put into a buffer, byte by byte and piece by piece. Assumes nothing.
use mathlib.Core.Path.{◌≡◌, refl, ap, ◌∙◌}
use mathlib.Core.List.{List, [], ◌++◌, append_assoc, append-nil}
use Prim.Native.Nat.{ℕ, suc, ◌+◌, ◌≤◌, ◌<◌}
use native.Mathlib.Numerals.{add-one}
use native.Mathlib.Omega.{arith}
use lib.ListN.{length, take, get_or, set, length-set, length-append}
use lib.Seq.{length-take-le, take-suc, take-suc-set}
use Rattle.script.specs.Lines.{decimal, word, spaced}
use Rattle.script.specs.Writing.{Put}
use Rattle.std.specs.Prelude.{None, Some, Option as Maybe}
use Rattle.script.specs.declared.writer.Event.{Event}
use Rattle.script.specs.declared.writer.Event.TheVariants as Events
use Rattle.script.proofs.Decimal.{decimal-length}

-- nothing is put
pub put-none : (out : List ℕ) (at : ℕ) → Put out at [] out (at + 0)
put-none out at = let e : at + 0 ≡ at = omega arith in record { room = refl; end = refl; bytes = rw (e, append-nil) }

-- one byte more of the text
pub put-more : {before after : List ℕ} {at i : ℕ} (text : List ℕ) → Put before at (take i text) after (at + i) → i < length text → at + i < length after
    → Put before at (take (i + 1) text) (set after (at + i) (get_or text i 0)) (at + (i + 1))
put-more {before = before} {after = after} {at = at} {i = i} text p l m =
    let next : at + (i + 1) ≡ suc (at + i) = omega arith in
    let byte = get_or text i 0 in
    record {
      room = length-set after (at + i) byte ∙ p.room;
      end = rw (length-take-le (i + 1) text (omega arith));
      bytes =
          rw (next, take-suc-set after (at + i) byte m, p.bytes, append_assoc, add-one, take-suc text i 0 l);
    }

-- a second text after the first
pub put_then : {before between after : List ℕ} {at mid next : ℕ} {text more : List ℕ} → Put before at text between mid → Put between mid more after next
    → Put before at (text ++ more) after next
put_then {before = before} {at = at} {text = text} {more = more} p q =
    record {
      room = q.room ∙ p.room;
      end = omega (arith, p.end, q.end, length-append text more);
      bytes = q.bytes ∙ ap (λ (t : List ℕ). t ++ more) p.bytes ∙ append_assoc (take at before) text more;
    }

-- room enough
pub event-length : (event : Maybe Event) → length (spaced (word event)) ≤ 8
event-length (Some Events.Swapped) = omega arith
event-length (Some Events.Added) = omega arith
event-length (Some Events.Locked) = omega arith
event-length (Some Events.Rebuilt) = omega arith
event-length None = omega arith

pub number-length : (n : ℕ) → length (spaced (decimal n)) ≤ 21
number-length n = rw length-append (omega (arith, decimal-length 20 n))
