-- Lists by the numbers of their elements. Assumes nothing.
use Rattle.std.specs.Prelude.{Bool, true, false, ◌&&◌, ◌||◌, List, [], ◌∷◌, ◌++◌, ℕ, zero, suc, get_or, set}

module _ {A : Type 0} where
  -- f 0, .. f (m − 1)
  unfoldable pub list_of : ℕ → (ℕ → A) → List A
  list_of zero f = []
  list_of (suc m) f = list_of m f ++ (f m ∷ [])

  -- element j of a list, j from 1; outside the list a default
  unfoldable pub element_at : A → List A → ℕ → A
  element_at default list zero = default
  element_at default list (suc j) = get_or list j default

  -- the list with another element j
  unfoldable pub set_at : List A → ℕ → A → List A
  set_at list zero x = list
  set_at list (suc j) x = set list j x

  -- p holds of each element; of some element
  unfoldable pub every_of : (A → Bool) → List A → Bool
  every_of p [] = true
  every_of p (x ∷ list) = p x && every_of p list

  unfoldable pub some_of : (A → Bool) → List A → Bool
  some_of p [] = false
  some_of p (x ∷ list) = p x || some_of p list
