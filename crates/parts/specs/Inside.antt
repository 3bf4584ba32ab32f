-- What is said of a call on parts of tables, by what is said of the parts. Assumes nothing.
--     cut a e xs      the elements from a on and before e.        paste      the list with others in their place
--     Inside          R holds of the parts of five tables, the rest of each is as it was; the sixth is read only
use Rattle.std.specs.Prelude.{List, ◌++◌, ◌≡◌, ℕ, ◌-◌, length, take, drop}

abbrev pub cut : {X : Type 0} → ℕ → ℕ → List X → List X
cut a e xs = take (e - a) (drop a xs)

abbrev pub paste : {X : Type 0} → ℕ → ℕ → List X → List X → List X
paste a e xs ys = take a xs ++ (ys ++ drop (e - a) (drop a xs))

-- where a part begins and where it ends
pub record Range : Type 0 where
  pub first : ℕ
  pub end : ℕ

abbrev pub part_in : {X : Type 0} → Range → List X → List X
part_in p xs = cut p.first p.end xs

-- nothing but the part has changed, and it has as many elements as before
abbrev pub Only : {X : Type 0} → Range → List X → List X → Type 0
Only p xs xs' = (length xs' ≡ length xs) × (xs' ≡ paste p.first p.end xs (part_in p xs'))

module _ {N C Q A : Type 0}
    (R : List N → List C → List ℕ → List ℕ → List ℕ → List ℕ → Q → A → List N → List C → List ℕ → List ℕ → List ℕ → Type 0) where
  abbrev pub Inside : (n c b s d v : Range) → List N → List C → List ℕ → List ℕ → List ℕ → List ℕ → Q → A
      → List N → List C → List ℕ → List ℕ → List ℕ → Type 0
  Inside n c b s d v nodes clients blocks spare differences value q answer nodes' clients' blocks' spare' differences' =
      R (part_in n nodes) (part_in c clients) (part_in b blocks) (part_in s spare) (part_in d differences) (part_in v value) q answer
      (part_in n nodes') (part_in c clients') (part_in b blocks') (part_in s spare') (part_in d differences')
      × (Only n nodes nodes' × (Only c clients clients' × (Only b blocks blocks' × (Only s spare spare' × Only d differences differences'))))
