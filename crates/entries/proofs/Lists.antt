-- What the lists in an array with a count cite: a list by its places (`list_of`), and what is asked of its elements. Assumes nothing.
use Rattle.std.specs.Prelude.{Option, None, Some, reverse}
use Rattle.std.specs.List.{find, list_all, list_any}
use Rattle.std.specs.Option.{option_map, option_or}
use Rattle.std.proofs.lemmas.List.{get_or-take, get_or_default, map-append}
use Rattle.std.proofs.lemmas.List.Folds.{find-append}
use Rattle.std.proofs.lemmas.List.Recursion.{same_from_clauses}
use mathlib.Core.Path.{◌≡◌, refl, sym, ap, ap₂, ◌∙◌}
use mathlib.Core.Logic.{◌⊎◌, inl, inr}
use mathlib.Core.Bool.{Bool, true, false, cond, ◌&&◌, ◌||◌, not, and_assoc, or_assoc, or-true, or-false}
use mathlib.Core.List.{List, [], ◌∷◌, ◌++◌, map, reverse-cons}
use Prim.Native.Nat.{ℕ, zero, suc, ◌+◌, ◌≤◌, ◌<◌}
use native.Mathlib.Nat.{eq-or-lt_of_le, le_of_suc-le-suc}
use native.Mathlib.Numerals.{add-one}
use native.Mathlib.Decide.{ℕ_discrete}
use native.Mathlib.Omega.{arith}
use lib.Dec.{leb}
use lib.ListN.{length, get_or, set, take, length-map, length-take, length-set, get_or-map}
use lib.Seq.{ext_get_or, get_or-set_same, get_or-set_other}
use Rattle.basics.specs.Lists.{list_of, every_of, some_of}
use Rattle.basics.proofs.Lists.{length-list_of, get_or-list_of, list_of-cong}
use Rattle.entries.specs.declared.WriteId.{WriteId}
use Rattle.entries.specs.declared.Entry as Declared
use Rattle.entries.specs.declared.Few.{Few}
use Rattle.entries.specs.Entries.{Entry, same_id, due_age, is_recent, is_in, is_listed, is_recent_in, is_old_in, last_recent, last_recent_after, aged_entry, aged, discard, mark_old, marked_entry, some_due, age_limit, id_within, ids_within, entries_within}
use Rattle.entries.specs.View.{few_of, blank_id, ids_of, entry_of, blank_entry, entries_of}

pub list_of-more : {A : Type 0} (i : ℕ) (at : ℕ → A) → list_of (i + 1) at ≡ list_of i at ++ (at i ∷ [])
unfolding list_of
list_of-more i at = rw add-one

-- a list is as long as its count says
pub ids-count : {N : ℕ} (s : Few WriteId N) → length (ids_of s) ≡ s.count
ids-count s = length-list_of s.count (λ i. get_or s.items i blank_id)

pub entries-count : {N : ℕ} (s : Few Declared.Entry N) → length (entries_of s) ≡ s.count
entries-count s = length-list_of s.count (λ i. entry_of (get_or s.items i blank_entry))

-- a store after the last of the n, where f is how an item is seen
pub list_of-push : {A B : Type 0} (f : A → B) (l : List A) (n : ℕ) (x d : A) → n < length l
    → list_of (n + 1) (λ i. f (get_or (set l n x) i d)) ≡ list_of n (λ i. f (get_or l i d)) ++ (f x ∷ [])
list_of-push f l n x d h =
    list_of-more n (λ i. f (get_or (set l n x) i d))
    ∙ ap₂ (λ a b. a ++ (b ∷ [])) (list_of-cong n (λ i. f (get_or (set l n x) i d)) (λ i. f (get_or l i d)) other) (ap f (get_or-set_same l n x d h))
  where
    other : (i : ℕ) → i < n → f (get_or (set l n x) i d) ≡ f (get_or l i d)
    other i below = ap f (get_or-set_other l n i x d (λ e. omega arith))

-- ---- a loop that looks for an element: p the test of an element, some that of a list

pub record Search {A : Type 0} (p : A → Bool) (some : List A → Bool) : Type 0 where
  pub none : some [] ≡ false
  pub more : (x : A) (l : List A) → some (x ∷ l) ≡ (p x || some l)

-- none of the first i of n elements passes
pub record Searched {A : Type 0} (some : List A → Bool) (at : ℕ → A) (i n : ℕ) : Type 0 where
  pub within : i ≤ n
  pub none : some (list_of i at) ≡ false

pub search-end : {A : Type 0} {some : List A → Bool} {at : ℕ → A} {i n : ℕ} → Searched some at i n → n ≤ i → false ≡ some (list_of n at)
search-end {A} {some} {at} {i} {n} q h = let e : i ≡ n = omega arith in sym (rw e at q.none)

module _ {A : Type 0} {p : A → Bool} {some : List A → Bool} (s : Search p some) where
  some-last : (l : List A) (x : A) → some (l ++ (x ∷ [])) ≡ (some l || p x)
  some-last [] x = s.more x [] ∙ rw s.none (or-false (p x))
  some-last (y ∷ l) x = s.more y (l ++ (x ∷ [])) ∙ rw (some-last l x, s.more y l) (sym (or_assoc (p y) (some l) (p x)))

  some_more : (at : ℕ → A) (i : ℕ) → some (list_of (i + 1) at) ≡ (some (list_of i at) || p (at i))
  some_more at i = ap some (list_of-more i at) ∙ some-last (list_of i at) (at i)

  some_at : (at : ℕ → A) (i n : ℕ) → i < n → p (at i) ≡ true → some (list_of n at) ≡ true
  some_at at i zero h t = absurd (omega arith)
  some_at at i (suc n) h t = rw (← add-one n, some_more at n) (go (eq-or-lt_of_le (le_of_suc-le-suc h)) (λ l. some_at at i n l t))
    where
      go : (i ≡ n) ⊎ (i < n) → (i < n → some (list_of n at) ≡ true) → (some (list_of n at) || p (at n)) ≡ true
      go (inl q) earlier = rw (← q, t) (or-true (some (list_of i at)))
      go (inr l) earlier = rw (earlier l)

  pub search-start : {at : ℕ → A} {n : ℕ} → Searched some at 0 n
  unfolding list_of
  search-start = record { within = omega arith; none = s.none }

  -- a turn, where r is the test of element i
  module _ {at : ℕ → A} {i n : ℕ} {r : Bool} (q : Searched some at i n) (h : i < n) (e : r ≡ p (at i)) where
    pub search-on : r ≡ false → Searched some at (i + 1) n
    search-on t = record { within = omega arith; none = some_more at i ∙ rw (q.none, ← e, t) }

    pub search-hit : r ≡ true → true ≡ some (list_of n at)
    search-hit t = sym (some_at at i n h (sym e ∙ t))

-- ---- a list through the first items of its array

-- f of each of the first n
pub list_of-take : {A B : Type 0} (f : A → B) (l : List A) (d : A) (n : ℕ) → n ≤ length l → list_of n (λ i. f (get_or l i d)) ≡ map f (take n l)
list_of-take f l d n h =
    ext_get_or (f d) _ _ (length-list_of n (λ i. f (get_or l i d)) ∙ simp (length-map, length-take) (omega arith))
    (λ p b. let q : p < n = omega (arith, length-list_of n (λ i. f (get_or l i d))) in
    get_or-list_of n (λ i. f (get_or l i d)) p (f d) q ∙ sym (get_or-map f (take n l) p d ∙ ap f (get_or-take n l p d q)))

map-same : {A : Type 0} (l : List A) → map (λ x. x) l ≡ l
map-same [] = refl
map-same (x ∷ l) = ap (λ y. x ∷ y) (map-same l)

module _ {T : Type 0} {N : ℕ} (s : Few T N) (d : T) (h : s.count ≤ length s.items) where
  pub few-take : few_of d s ≡ take s.count s.items
  few-take = list_of-take (λ x. x) s.items d s.count h ∙ map-same (take s.count s.items)

  module _ (p : T → Bool) where
    pub any-item : list_any p (take s.count s.items) ≡ some_of p (few_of d s)
    unfolding some_of
    any-item = rw few-take (same_from_clauses (list_any p) (some_of p) (λ x b. p x || b) refl (λ x l. refl) (λ x l. refl) (take s.count s.items))

    pub all-item : list_all p (take s.count s.items) ≡ every_of p (few_of d s)
    unfolding every_of
    all-item = rw few-take (same_from_clauses (list_all p) (every_of p) (λ x b. p x && b) refl (λ x l. refl) (λ x l. refl) (take s.count s.items))

list_of-map : {A B : Type 0} (f : A → B) (n : ℕ) (at : ℕ → A) → list_of n (λ i. f (at i)) ≡ map f (list_of n at)
unfolding list_of
list_of-map f zero at = refl
list_of-map f (suc n) at = rw (list_of-map f n at) (sym (map-append f (list_of n at) (at n ∷ [])))

pub entries-map : {N : ℕ} (s : Few Declared.Entry N) → entries_of s ≡ map entry_of (few_of blank_entry s)
entries-map s = list_of-map entry_of s.count (λ i. get_or s.items i blank_entry)

module _ {N : ℕ} (s : Few Declared.Entry N) where
  pub entries-none : few_of blank_entry s ≡ [] → entries_of s ≡ []
  entries-none e = rw (entries-map s, e)

  pub entries-push : (r : Few Declared.Entry N) (e : Declared.Entry) → few_of blank_entry r ≡ few_of blank_entry s ++ (e ∷ []) → entries_of r ≡ entries_of s ++ (entry_of e ∷ [])
  entries-push r e q = entries-map r ∙ ap (map entry_of) q ∙ map-append entry_of (few_of blank_entry s) (e ∷ []) ∙ ap (λ l. l ++ (entry_of e ∷ [])) (sym (entries-map s))

  -- some entry passes; each does
  pub some-entry : {p : Entry → Bool} {some : List Entry → Bool} → Search p some → some_of (λ e. p (entry_of e)) (few_of blank_entry s) ≡ some (entries_of s)
  unfolding some_of
  some-entry {p} {some} q = rw (entries-map s) (go (few_of blank_entry s))
    where
      go : (l : List Declared.Entry) → some_of (λ e. p (entry_of e)) l ≡ some (map entry_of l)
      go [] = sym q.none
      go (e ∷ l) = rw (q.more, go l)

  pub entries-within : (k m : ℕ) → every_of (λ e. id_within k m (entry_of e).id && leb (entry_of e).age.0 age_limit) (few_of blank_entry s) ≡ entries_within k m (entries_of s)
  unfolding every_of entries_within
  entries-within k m = rw (entries-map s) (go (few_of blank_entry s))
    where
      go : (l : List Declared.Entry) → every_of (λ e. id_within k m (entry_of e).id && leb (entry_of e).age.0 age_limit) l ≡ entries_within k m (map entry_of l)
      go [] = refl
      go (e ∷ l) = and_assoc (id_within k m (entry_of e).id) (leb (entry_of e).age.0 age_limit) _ ∙ rw (go l)

pub is_in-some : (id : WriteId) (l : List WriteId) → some_of (λ x. same_id x id) l ≡ is_in id l
unfolding some_of is_in
is_in-some id l = same_from_clauses (some_of (λ x. same_id x id)) (is_in id) (λ x b. same_id x id || b) refl (λ x y. refl) (λ x y. refl) l

pub ids-within : (k m : ℕ) (l : List WriteId) → every_of (id_within k m) l ≡ ids_within k m l
unfolding every_of ids_within
ids-within k m l = same_from_clauses (every_of (id_within k m)) (ids_within k m) (λ x b. id_within k m x && b) refl (λ x y. refl) (λ x y. refl) l

pub listed-search : (x : WriteId) → Search (λ e. same_id e.id x) (is_listed x)
unfolding is_listed
listed-search x = record { none = refl; more = λ e es. refl }

pub recent-search : (x : WriteId) → Search (λ e. is_recent e && same_id e.id x) (is_recent_in x)
unfolding is_recent_in
recent-search x = record { none = refl; more = λ e es. refl }

pub old-search : (x : WriteId) → Search (λ e. not (is_recent e) && same_id e.id x) (is_old_in x)
unfolding is_old_in
old-search x = record { none = refl; more = λ e es. refl }

pub due-search : Search (λ e. is_recent e && leb due_age e.age.0) some_due
unfolding some_due
due-search = record { none = refl; more = λ e es. refl }

-- ---- a loop that changes each entry in its place

pub aged-map : (es : List Entry) → aged es ≡ map aged_entry es
unfolding aged
aged-map [] = refl
aged-map (e ∷ es) = rw (aged-map es)

pub mark_old-map : (ids : List WriteId) (es : List Entry) → mark_old ids es ≡ map (marked_entry ids) es
unfolding mark_old
mark_old-map ids [] = refl
mark_old-map ids (e ∷ es) = rw (mark_old-map ids es)

-- a list of entries, each changed
pub changed-each : {N : ℕ} (f : Entry → Entry) (s r : Few Declared.Entry N) → r.count ≡ s.count
    → ((i : ℕ) → i < s.count → entry_of (get_or r.items i blank_entry) ≡ f (entry_of (get_or s.items i blank_entry))) → entries_of r ≡ map f (entries_of s)
changed-each f s r e q =
    rw e (list_of-cong s.count (λ i. entry_of (get_or r.items i blank_entry)) (λ i. f (entry_of (get_or s.items i blank_entry))) q)
    ∙ list_of-map f s.count (λ i. entry_of (get_or s.items i blank_entry))

-- the first i items are changed, the others as they were
pub record Changed {T : Type 0} (P : T → T → Type 0) (old now : List T) (i : ℕ) : Type 0 where
  pub places : length now ≡ length old
  pub done : (d : T) (k : ℕ) → k < i → P (get_or old k d) (get_or now k d)
  pub others : (d : T) (k : ℕ) → i ≤ k → get_or now k d ≡ get_or old k d

module _ {T : Type 0} {P : T → T → Type 0} {old : List T} where
  pub change-start : Changed P old old 0
  change-start = record { places = refl; done = λ d k h. absurd (omega arith); others = λ d k h. refl }

  pub change-on : {now : List T} {i : ℕ} → Changed P old now i → i < length now → (x y : T) → P (get_or now i x) y → Changed P old (set now i y) (i + 1)
  change-on {now} {i} q h x y p = record {
    places = length-set now i y ∙ q.places;
    done = λ d k l. by d k (ℕ_discrete k i) l;
    others = λ d k l. get_or-set_other now i k y d (λ z. omega arith) ∙ q.others d k (omega arith);
  }
    where
      by : (d : T) (k : ℕ) → Dec (k ≡ i) → k < i + 1 → P (get_or old k d) (get_or (set now i y) k d)
      by d k (yes z) l = rw (z, get_or-set_same now i y d h, ← q.others d i (omega arith), get_or_default now i d x h) p
      by d k (no n) l = rw (get_or-set_other now i k y d n) (q.done d k (omega arith))

-- ---- a loop that keeps the entries that a discard leaves

pub discard-last : (ids : List WriteId) (es : List Entry) (e : Entry)
    → discard ids (es ++ (e ∷ [])) ≡ discard ids es ++ cond (not (is_recent e) && is_in e.id ids) [] (e ∷ [])
unfolding discard
discard-last ids [] e = refl
discard-last ids (x ∷ es) e = rw (discard-last ids es e) (by (not (is_recent x) && is_in x.id ids))
  where
    by : (b : Bool) → cond b (discard ids es ++ cond (not (is_recent e) && is_in e.id ids) [] (e ∷ [])) (x ∷ (discard ids es ++ cond (not (is_recent e) && is_in e.id ids) [] (e ∷ [])))
        ≡ cond b (discard ids es) (x ∷ discard ids es) ++ cond (not (is_recent e) && is_in e.id ids) [] (e ∷ [])
    by true = refl
    by false = refl

pub discard-few : (ids : List WriteId) (es : List Entry) → length (discard ids es) ≤ length es
unfolding discard
discard-few ids [] = omega arith
discard-few ids (x ∷ es) = by (not (is_recent x) && is_in x.id ids) (discard-few ids es)
  where
    by : (b : Bool) → length (discard ids es) ≤ length es → length (cond b (discard ids es) (x ∷ discard ids es)) ≤ suc (length es)
    by true h = omega arith
    by false h = omega arith

-- ---- the last recent entry, found from the end

pub last-found : (p : Option WriteId) (l : List Declared.Entry)
    → last_recent_after p (map entry_of l) ≡ option_or (option_map (λ e. (entry_of e).id) (find (λ e. is_recent (entry_of e)) (reverse l))) p
unfolding last_recent_after
last-found p [] = refl
last-found p (x ∷ l) =
    last-found (cond (is_recent (entry_of x)) (Some (entry_of x).id) p) l
    ∙ sym (rw (reverse-cons, find-append) (by (find (λ e. is_recent (entry_of e)) (reverse l)) (is_recent (entry_of x))))
  where
    by : (o : Option Declared.Entry) (b : Bool)
        → option_or (option_map (λ e. (entry_of e).id) (option_or o (cond b (Some x) None))) p ≡ option_or (option_map (λ e. (entry_of e).id) o) (cond b (Some (entry_of x).id) p)
    by (Some y) b = refl
    by None true = refl
    by None false = refl

pub last-of : (l : List Declared.Entry)
    → option_map (λ e. (entry_of e).id) (find (λ e. is_recent (entry_of e)) (reverse l)) ≡ last_recent (map entry_of l)
last-of l = by (option_map (λ e. (entry_of e).id) (find (λ e. is_recent (entry_of e)) (reverse l))) ∙ sym (last-found None l)
  where
    by : (o : Option WriteId) → o ≡ option_or o None
    by (Some y) = refl
    by None = refl
