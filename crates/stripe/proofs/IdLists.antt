-- Lists of recent ids, made id by id. Assumes nothing.
use mathlib.Core.Path.{◌≡◌, refl, ap, ◌∙◌}
use mathlib.Core.Bool.{Bool, true, false, cond, ◌&&◌, not}
use mathlib.Core.List.{List, [], ◌∷◌, ◌++◌, append-nil}
use Prim.Native.Nat.{ℕ, suc, ◌≤◌}
use native.Mathlib.Omega.{arith}
use lib.Dec.{eqb}
use lib.ListN.{length}
use Rattle.machine.specs.Rebuild.{old_somewhere, recent_ids, at_position}
use Rattle.entries.specs.declared.WriteId.{WriteId}
use Rattle.entries.specs.Entries.{is_recent}
use Rattle.entries.specs.declared.Few.{Few}
use Rattle.entries.specs.View.{ids_of}
use Rattle.entries.proofs.Lists.{ids-count}
use Rattle.records.specs.Node.{Node}

-- ---- a loop that keeps a part of each element that passes a test; `kept` is what it keeps of a list

pub record Keep {A : Type 0} (test : A → Bool) (part : A → WriteId) (kept : List A → List WriteId) : Type 0 where
  pub none : kept [] ≡ []
  pub more : (x : A) (l : List A) → kept (x ∷ l) ≡ cond (test x) (part x ∷ kept l) (kept l)

pub position-keep : (i : ℕ) → Keep (λ x. eqb x.position i) (λ x. x) (at_position i)
unfolding at_position
position-keep i = record { none = refl; more = λ x l. refl }

pub recent-keep : (nodes : List Node) → Keep (λ e. is_recent e && not (old_somewhere nodes e.id)) (λ e. e.id) (recent_ids nodes)
unfolding recent_ids
recent-keep nodes = record { none = refl; more = λ x l. refl }

module _ {A : Type 0} {test : A → Bool} {part : A → WriteId} {kept : List A → List WriteId} (k : Keep test part kept) where
  keep-last : (l : List A) (x : A) → kept (l ++ (x ∷ [])) ≡ kept l ++ cond (test x) (part x ∷ []) []
  keep-last [] x = k.more x [] ∙ rw k.none
  keep-last (y ∷ l) x = k.more y (l ++ (x ∷ [])) ∙ rw (k.more y l, keep-last l x) (by (test y))
    where
      by : (b : Bool) → cond b (part y ∷ (kept l ++ cond (test x) (part x ∷ []) [])) (kept l ++ cond (test x) (part x ∷ []) [])
          ≡ cond b (part y ∷ kept l) (kept l) ++ cond (test x) (part x ∷ []) []
      by true = refl
      by false = refl

  keep-few : (l : List A) → length (kept l) ≤ length l
  keep-few [] = rw k.none (omega arith)
  keep-few (x ∷ l) = rw (k.more x l) (by (test x) (keep-few l))
    where
      by : (b : Bool) → length (kept l) ≤ length l → length (cond b (part x ∷ kept l) (kept l)) ≤ suc (length l)
      by true h = omega arith
      by false h = omega arith

  pub keep-count : {l : List A} (r : Few WriteId 16) → ids_of r ≡ kept l → r.count ≤ length l
  keep-count {l} r e = omega (arith, ids-count r, ap length e, keep-few l)

  -- o has what is kept of the elements so far; x is the next
  pub keep-start : {o : List WriteId} → o ≡ [] → o ≡ kept []
  keep-start e = rw k.none e

  module _ (l : List A) (x : A) {o : List WriteId} (q : o ≡ kept l) where
    pub keep-on : {r : List WriteId} → test x ≡ true → r ≡ o ++ (part x ∷ []) → r ≡ kept (l ++ (x ∷ []))
    keep-on t e = rw (keep-last, t, ← q) e

    pub keep-off : test x ≡ false → o ≡ kept (l ++ (x ∷ []))
    keep-off t = rw (keep-last, t, append-nil, ← q)
