-- A tick changes ages only, and 64 ticks make a node due. Assumes nothing.
use mathlib.Core.Path.{◌≡◌, refl, sym, ap, ap₂, ◌∙◌}
use mathlib.Core.Bool.{Bool, true, false, cond, ◌&&◌, ◌||◌, not, or_assoc, or-false}
use mathlib.Core.List.{List, [], ◌∷◌, ◌++◌, map}
use Prim.Native.Nat.{ℕ, zero, suc, ◌+◌, ◌≤◌, ◌<◌, min}
use native.Mathlib.Decide.{dec_lt}
use native.Mathlib.Omega.{arith}
use lib.Dec.{leb, ltb}
use borrow.Author.Tests.{lt-ltb, le-ltb, le-leb, lt-leb}
use Rattle.basics.specs.Lists.{set_at}
use Rattle.entries.specs.declared.WriteId.{WriteId}
use Rattle.entries.specs.declared.Mark.TheVariants.{Recent}
use Rattle.entries.specs.Entries.{Entry, age_limit, due_age, is_recent, new_entry, aged_entry, aged, some_due}
use Rattle.records.specs.Sizes.{sizes_within}
use Rattle.records.specs.Node.{Node, with_entries, entered, ticked, is_init, is_due}
use Rattle.records.specs.Client.{Client, fresh_client}
use Rattle.records.specs.declared.Refusal.TheVariants.{OutOfLimits}
use Rattle.machine.specs.Stripe.{Accepted, answered, guard, Whole, Outcome, client_at, whole, put_whole, nodes_fit}
use Rattle.machine.specs.Aging as Aging
use Rattle.machine.specs.Calls.{step}
use Rattle.machine.specs.Ages.{without_ages, ageless, SameButAges, ChangesAgesOnly, after_ticks, DueAfter64}
use Rattle.machine.proofs.View.{set_same}

---- ages only

without-aged : (es : List Entry) → without_ages (aged es) ≡ without_ages es
unfolding without_ages aged
without-aged [] = refl
without-aged (e ∷ es) = ap (λ l. record { id = e.id; mark = e.mark; age = record { 0 = 0 } } ∷ l) (without-aged es)

ageless-ticked : (nodes : List Node) → map ageless (map ticked nodes) ≡ map ageless nodes
ageless-ticked [] = refl
ageless-ticked (x ∷ nodes) = ap₂ ◌∷◌ (ap (with_entries x) (without-aged x.entries)) (ageless-ticked nodes)

pub changes-ages-only : ChangesAgesOnly
unfolding step Aging.tick guard
changes-ages-only z s = by (not (sizes_within z && nodes_fit z s.nodes))
  where
    clients : set_at s.clients 0 (client_at s.clients 0) ≡ s.clients
    clients = set_same (λ (y : Client). y) fresh_client s.clients 0

    after : Bool → Outcome Whole
    after refuse =
        guard refuse OutOfLimits (whole 0 s)
        (answered Accepted (record { nodes = map ticked s.nodes; client = client_at s.clients 0; blocks = s.blocks; spare = s.spare }))

    by : (refuse : Bool) → SameButAges s (put_whole 0 (after refuse).after s)
    by true = record { nodes = refl; clients = clients; blocks = refl; spare = refl; differences = refl }
    by false = record { nodes = ageless-ticked s.nodes; clients = clients; blocks = refl; spare = refl; differences = refl }

---- due after 64

unfoldable aged_by : ℕ → List Entry → List Entry
aged_by zero es = es
aged_by (suc t) es = aged (aged_by t es)

after-ticks : (t : ℕ) (x : Node) → after_ticks t x ≡ with_entries x (aged_by t x.entries)
unfolding after_ticks aged_by
after-ticks zero x = refl
after-ticks (suc t) x = ap ticked (after-ticks t x)

aged-append : (es fs : List Entry) → aged (es ++ fs) ≡ aged es ++ aged fs
unfolding aged
aged-append [] fs = refl
aged-append (e ∷ es) fs = ap (λ l. aged_entry e ∷ l) (aged-append es fs)

aged_by-append : (t : ℕ) (es fs : List Entry) → aged_by t (es ++ fs) ≡ aged_by t es ++ aged_by t fs
unfolding aged_by
aged_by-append zero es fs = refl
aged_by-append (suc t) es fs = ap aged (aged_by-append t es fs) ∙ aged-append (aged_by t es) (aged_by t fs)

due-append : (es fs : List Entry) → some_due (es ++ fs) ≡ (some_due es || some_due fs)
unfolding some_due
due-append [] fs = refl
due-append (e ∷ es) fs =
    ap (λ t. (is_recent e && leb due_age e.age.0) || t) (due-append es fs)
    ∙ sym (or_assoc (is_recent e && leb due_age e.age.0) (some_due es) (some_due fs))

-- a recent entry has the number of ticks since it was entered as its age, up to 255
abbrev entry_of : WriteId → ℕ → Entry
entry_of id age = record { id = id; mark = Recent; age = record { 0 = age } }

next-age : (t : ℕ) → cond (ltb (min t age_limit) age_limit) (min t age_limit + 1) (min t age_limit) ≡ min (suc t) age_limit
next-age t = by (dec_lt (min t age_limit) age_limit)
  where
    by : Dec (min t age_limit < age_limit) → cond (ltb (min t age_limit) age_limit) (min t age_limit + 1) (min t age_limit) ≡ min (suc t) age_limit
    by (yes h) = rw (lt-ltb (min t age_limit) age_limit h) (omega arith)
    by (no h) = let k : age_limit ≤ min t age_limit = omega arith in rw (le-ltb (min t age_limit) age_limit k) (omega arith)

new-aged : (id : WriteId) (t : ℕ) → aged_by t (new_entry id ∷ []) ≡ entry_of id (min t age_limit) ∷ []
unfolding aged_by aged
new-aged id zero = refl
new-aged id (suc t) = ap aged (new-aged id t) ∙ ap (λ age. entry_of id age ∷ []) (next-age t)

due-age : (t : ℕ) → leb due_age (min t age_limit) ≡ leb due_age t
due-age t = by (dec_lt t due_age)
  where
    by : Dec (t < due_age) → leb due_age (min t age_limit) ≡ leb due_age t
    by (yes h) = let k : min t age_limit < due_age = omega arith in lt-leb due_age (min t age_limit) k ∙ sym (lt-leb due_age t h)
    by (no h) =
        let k : due_age ≤ min t age_limit = omega arith in
        let l : due_age ≤ t = omega arith in
        le-leb due_age (min t age_limit) k ∙ sym (le-leb due_age t l)

new-due : (id : WriteId) (t : ℕ) → some_due (aged_by t (new_entry id ∷ [])) ≡ leb due_age t
unfolding some_due
new-due id t = ap some_due (new-aged id t) ∙ or-false (leb due_age (min t age_limit)) ∙ due-age t

pub due-after-64 : DueAfter64
due-after-64 id x t =
    ap is_due (after-ticks t (entered id x))
    ∙ ap (λ b. is_init x.opmode || b)
    (ap some_due (aged_by-append t x.entries (new_entry id ∷ []))
    ∙ due-append (aged_by t x.entries) (aged_by t (new_entry id ∷ []))
    ∙ ap (λ b. some_due (aged_by t x.entries) || b) (new-due id t))
    ∙ sym (or_assoc (is_init x.opmode) (some_due (aged_by t x.entries)) (leb due_age t))
    ∙ ap (λ y. is_due y || leb due_age t) (sym (after-ticks t x))
