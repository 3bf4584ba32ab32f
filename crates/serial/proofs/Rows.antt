-- Arrays of bytes as the code writes them: the places of a word and of an id, and a piece whose length is that of the array. Assumes nothing.
use mathlib.Core.List.{List, [], ◌∷◌, ◌++◌}
use mathlib.Core.Path.{◌≡◌, sym, ap, ◌∙◌}
use Prim.Native.Nat.{ℕ, ◌+◌}
use lib.ListN.{length, get_or}
use Rattle.octets.specs.Octets.{Put}
use Rattle.octets.proofs.Filling.{Filled, fill}

abbrev pub four : List ℕ → List ℕ
four b = get_or b 0 0 ∷ get_or b 1 0 ∷ get_or b 2 0 ∷ get_or b 3 0 ∷ []

abbrev pub six : List ℕ → List ℕ
six b = get_or b 0 0 ∷ get_or b 1 0 ∷ get_or b 2 0 ∷ get_or b 3 0 ∷ get_or b 4 0 ∷ get_or b 5 0 ∷ []

pub fill-array : {size at : ℕ} {done out v new : List ℕ} (w next : ℕ) (v' : List ℕ) → Filled size at done out → Put out at v new → v ≡ v' → length v ≡ w
    → at + w ≡ next → Filled size next (done ++ v') new
fill-array w next v' d p e l q = fill w next v' d p e (ap length (sym e) ∙ l) q
