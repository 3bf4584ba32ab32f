-- What entering, a tick, discarding and marking do to the tests of a list of entries. Assumes nothing.
use Rattle.std.specs.Prelude.{Option, None, Some}
use mathlib.Core.Path.{◌≡◌, refl, sym, ap, ap₂, subst, ◌∙◌}
use mathlib.Core.Logic.{◌⊎◌, inl, inr}
use mathlib.Core.Bool.{Bool, true, false, cond, ◌&&◌, ◌||◌, not, or_assoc}
use mathlib.Core.List.{List, [], ◌∷◌, ◌++◌}
use lib.Dec.{eqb}
use borrow.Author.Tests.{not-true, eqb-true, eq-eqb}
use Rattle.entries.specs.declared.Mark.{Mark}
use Rattle.entries.specs.declared.Mark.TheVariants.{Recent, Old}
use Rattle.entries.specs.declared.WriteId.{WriteId}
use Rattle.entries.specs.Entries.{Entry, same_id, marked, is_recent, is_listed, is_recent_in, is_old_in, is_in, last_recent, last_recent_after, enter, aged, discard, mark_old}
use Rattle.basics.proofs.Tests.{clash, and_both, or-one, or-false, or_left, or_right, bool_cases, cond_ind}

pub same_id_lem : (a b : WriteId) → same_id a b ≡ true → a ≡ b
unfolding same_id
same_id_lem a b e = go (and_both _ _ e)
  where
    go : (eqb a.client b.client ≡ true) × ((eqb a.position b.position && eqb a.number.0 b.number.0) ≡ true) → a ≡ b
    go h =
        let q = and_both (eqb a.position b.position) (eqb a.number.0 b.number.0) h.1 in
        λ i. record { client = eqb-true a.client b.client h.0 i; position = eqb-true a.position b.position q.0 i; number = record { 0 = eqb-true a.number.0 b.number.0 q.1 i } }

pub same-id-refl : (a : WriteId) → same_id a a ≡ true
unfolding same_id
same-id-refl a = rw (eq-eqb a.client a.client refl, eq-eqb a.position a.position refl, eq-eqb a.number.0 a.number.0 refl)

---- an empty list
pub in-nil : {A : Type 0} (x : WriteId) → is_in x [] ≡ true → A
unfolding is_in
in-nil x e = clash e refl

pub listed_nil : {A : Type 0} (x : WriteId) → is_listed x [] ≡ true → A
unfolding is_listed
listed_nil x e = clash e refl

pub old-nil : {A : Type 0} (x : WriteId) → is_old_in x [] ≡ true → A
unfolding is_old_in
old-nil x e = clash e refl

---- a recent or an old entry is listed
module _ (x : WriteId) where
  -- in an `or`: the first test implies the first, and the rests likewise
  or_map : (a b c d : Bool) → (a ≡ true → b ≡ true) → (c ≡ true → d ≡ true) → (a || c) ≡ true → (b || d) ≡ true
  or_map a b c d f g e = go (or-one a c e)
    where
      go : (a ≡ true) ⊎ (c ≡ true) → (b || d) ≡ true
      go (inl h) = or_left b d (f h)
      go (inr h) = or_right b d (g h)

  pub recent-listed : (es : List Entry) → is_recent_in x es ≡ true → is_listed x es ≡ true
  unfolding is_recent_in is_listed
  recent-listed [] = λ e. e
  recent-listed (a ∷ es) =
      or_map (is_recent a && same_id a.id x) (same_id a.id x) (is_recent_in x es) (is_listed x es) (λ h. (and_both (is_recent a) (same_id a.id x) h).1) (recent-listed es)

  pub old-listed : (es : List Entry) → is_old_in x es ≡ true → is_listed x es ≡ true
  unfolding is_old_in is_listed
  old-listed [] = λ e. e
  old-listed (a ∷ es) =
      or_map (not (is_recent a) && same_id a.id x) (same_id a.id x) (is_old_in x es) (is_listed x es) (λ h. (and_both (not (is_recent a)) (same_id a.id x) h).1) (old-listed es)

  ---- entering
  pub listed-enter : (y : WriteId) (es : List Entry) → is_listed x (enter y es) ≡ (is_listed x es || same_id y x)
  unfolding is_listed
  listed-enter y [] = or-false (same_id y x)
  listed-enter y (e ∷ es) = ap (λ t. same_id e.id x || t) (listed-enter y es) ∙ sym (or_assoc (same_id e.id x) (is_listed x es) (same_id y x))

  pub recent-enter : (y : WriteId) (es : List Entry) → is_recent_in x (enter y es) ≡ (is_recent_in x es || same_id y x)
  unfolding is_recent_in
  recent-enter y [] = or-false (same_id y x)
  recent-enter y (e ∷ es) =
      ap (λ t. (is_recent e && same_id e.id x) || t) (recent-enter y es) ∙ sym (or_assoc (is_recent e && same_id e.id x) (is_recent_in x es) (same_id y x))

  pub old-enter : (y : WriteId) (es : List Entry) → is_old_in x (enter y es) ≡ is_old_in x es
  unfolding is_old_in
  old-enter y [] = refl
  old-enter y (e ∷ es) = ap (λ t. (not (is_recent e) && same_id e.id x) || t) (old-enter y es)

  pub in-snoc : (y : WriteId) (l : List WriteId) → is_in x (l ++ (y ∷ [])) ≡ (is_in x l || same_id y x)
  unfolding is_in
  in-snoc y [] = or-false (same_id y x)
  in-snoc y (z ∷ l) = ap (λ t. same_id z x || t) (in-snoc y l) ∙ sym (or_assoc (same_id z x) (is_in x l) (same_id y x))

  ---- a tick
  pub listed-aged : (es : List Entry) → is_listed x (aged es) ≡ is_listed x es
  unfolding is_listed aged
  listed-aged [] = refl
  listed-aged (e ∷ es) = ap (λ t. same_id e.id x || t) (listed-aged es)

  pub recent-aged : (es : List Entry) → is_recent_in x (aged es) ≡ is_recent_in x es
  unfolding is_recent_in aged
  recent-aged [] = refl
  recent-aged (e ∷ es) = ap (λ t. (is_recent e && same_id e.id x) || t) (recent-aged es)

  pub old-aged : (es : List Entry) → is_old_in x (aged es) ≡ is_old_in x es
  unfolding is_old_in aged
  old-aged [] = refl
  old-aged (e ∷ es) = ap (λ t. (not (is_recent e) && same_id e.id x) || t) (old-aged es)

  ---- marking
  pub listed-mark : (l : List WriteId) (es : List Entry) → is_listed x (mark_old l es) ≡ is_listed x es
  unfolding is_listed mark_old
  listed-mark l [] = refl
  listed-mark l (e ∷ es) = ap (λ t. same_id e.id x || t) (listed-mark l es)

  -- an entry of an id that is not in the list keeps its mark
  same-mark : (l : List WriteId) (e : Entry) (f : Bool → Bool) → is_in x l ≡ false
      → (f (marked (cond (is_in e.id l) Old e.mark)) && same_id e.id x) ≡ (f (is_recent e) && same_id e.id x)
  same-mark l e f h = go (bool_cases (same_id e.id x))
    where
      and-false : (a b t : Bool) → t ≡ false → (a && t) ≡ (b && t)
      and-false true true t q = refl
      and-false true false t q = q
      and-false false true t q = sym q
      and-false false false t q = refl

      go : (same_id e.id x ≡ true) ⊎ (same_id e.id x ≡ false)
          → (f (marked (cond (is_in e.id l) Old e.mark)) && same_id e.id x) ≡ (f (is_recent e) && same_id e.id x)
      go (inl q) = let g : is_in e.id l ≡ false = subst (λ y. is_in y l ≡ false) (sym (same_id_lem e.id x q)) h in rw g
      go (inr q) = and-false (f (marked (cond (is_in e.id l) Old e.mark))) (f (is_recent e)) (same_id e.id x) q

  pub recent-mark : (l : List WriteId) (es : List Entry) → is_in x l ≡ false → is_recent_in x (mark_old l es) ≡ is_recent_in x es
  unfolding is_recent_in mark_old
  recent-mark l [] h = refl
  recent-mark l (e ∷ es) h = ap₂ ◌||◌ (same-mark l e (λ t. t) h) (recent-mark l es h)

  pub old-mark : (l : List WriteId) (es : List Entry) → is_in x l ≡ false → is_old_in x (mark_old l es) ≡ is_old_in x es
  unfolding is_old_in mark_old
  old-mark l [] h = refl
  old-mark l (e ∷ es) h = ap₂ ◌||◌ (same-mark l e not h) (old-mark l es h)

  ---- discarding
  pub listed-discard : (l : List WriteId) (es : List Entry) → is_listed x (discard l es) ≡ true → is_listed x es ≡ true
  unfolding is_listed discard
  listed-discard l [] = λ e. e
  listed-discard l (a ∷ es) =
      cond_ind (λ t. is_listed x t ≡ true → (same_id a.id x || is_listed x es) ≡ true) (not (is_recent a) && is_in a.id l) (discard l es) (a ∷ discard l es)
      (λ q e. or_right (same_id a.id x) (is_listed x es) (listed-discard l es e))
      (λ q. or_map (same_id a.id x) (same_id a.id x) (is_listed x (discard l es)) (is_listed x es) (λ h. h) (listed-discard l es))

  pub old-discard : (l : List WriteId) (es : List Entry) → is_old_in x (discard l es) ≡ true → is_old_in x es ≡ true
  unfolding is_old_in discard
  old-discard l [] = λ e. e
  old-discard l (a ∷ es) =
      cond_ind (λ t. is_old_in x t ≡ true → ((not (is_recent a) && same_id a.id x) || is_old_in x es) ≡ true) (not (is_recent a) && is_in a.id l) (discard l es) (a ∷ discard l es)
      (λ q e. or_right (not (is_recent a) && same_id a.id x) (is_old_in x es) (old-discard l es e))
      (λ q. or_map (not (is_recent a) && same_id a.id x) (not (is_recent a) && same_id a.id x) (is_old_in x (discard l es)) (is_old_in x es) (λ h. h) (old-discard l es))

  pub recent-discard : (l : List WriteId) (es : List Entry) → is_recent_in x (discard l es) ≡ is_recent_in x es
  unfolding is_recent_in discard
  recent-discard l [] = refl
  recent-discard l (a ∷ es) =
      cond_ind (λ t. is_recent_in x t ≡ ((is_recent a && same_id a.id x) || is_recent_in x es)) (not (is_recent a) && is_in a.id l) (discard l es) (a ∷ discard l es)
      (λ q. rw (not-true (is_recent a) (and_both (not (is_recent a)) (is_in a.id l) q).0) (recent-discard l es))
      (λ q. ap (λ t. (is_recent a && same_id a.id x) || t) (recent-discard l es))

---- the last recent id
last-after : (p : Option WriteId) (y : WriteId) (es : List Entry) → last_recent_after p (enter y es) ≡ Some y
unfolding last_recent_after
last-after p y [] = refl
last-after p y (e ∷ es) = last-after (cond (is_recent e) (Some e.id) p) y es

pub last-enter : (y : WriteId) (es : List Entry) → last_recent (enter y es) ≡ Some y
last-enter y es = last-after None y es

aged-after : (p : Option WriteId) (es : List Entry) → last_recent_after p (aged es) ≡ last_recent_after p es
unfolding last_recent_after aged
aged-after p [] = refl
aged-after p (e ∷ es) = aged-after (cond (is_recent e) (Some e.id) p) es

pub last-aged : (es : List Entry) → last_recent (aged es) ≡ last_recent es
last-aged es = aged-after None es

discard-after : (l : List WriteId) (p : Option WriteId) (es : List Entry) → last_recent_after p (discard l es) ≡ last_recent_after p es
unfolding last_recent_after discard
discard-after l p [] = refl
discard-after l p (a ∷ es) =
    cond_ind (λ t. last_recent_after p t ≡ last_recent_after (cond (is_recent a) (Some a.id) p) es) (not (is_recent a) && is_in a.id l) (discard l es) (a ∷ discard l es)
    (λ q. rw (not-true (is_recent a) (and_both (not (is_recent a)) (is_in a.id l) q).0) (discard-after l p es)) (λ q. discard-after l (cond (is_recent a) (Some a.id) p) es)

pub last-discard : (l : List WriteId) (es : List Entry) → last_recent (discard l es) ≡ last_recent es
last-discard l es = discard-after l None es

the-id : {x y : WriteId} → Some x ≡ Some y → x ≡ y
the-id e = cc

-- marking ids other than x leaves x the last, if it was: p and q are what was last before
mark-after : (l : List WriteId) (x : WriteId) → is_in x l ≡ false → (p q : Option WriteId) → (p ≡ Some x → q ≡ Some x) → (es : List Entry) → last_recent_after p es ≡ Some x
    → last_recent_after q (mark_old l es) ≡ Some x
unfolding last_recent_after mark_old
mark-after l x f p q h [] = h
mark-after l x f p q h (a ∷ es) = mark-after l x f (cond (is_recent a) (Some a.id) p) (cond (marked (cond (is_in a.id l) Old a.mark)) (Some a.id) q) (go a.mark) es
  where
    go : (m : Mark) → cond (marked m) (Some a.id) p ≡ Some x → cond (marked (cond (is_in a.id l) Old m)) (Some a.id) q ≡ Some x
    go Recent e = let g : is_in a.id l ≡ false = subst (λ y. is_in y l ≡ false) (sym (the-id e)) f in rw g e
    go Old e = cond_ind (λ t. cond (marked t) (Some a.id) q ≡ Some x) (is_in a.id l) Old Old (λ g. h e) (λ g. h e)

pub last-mark : (l : List WriteId) (x : WriteId) (es : List Entry) → last_recent es ≡ Some x → is_in x l ≡ false → last_recent (mark_old l es) ≡ Some x
last-mark l x es e f = mark-after l x f None None (λ h. h) es e
