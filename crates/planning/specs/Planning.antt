-- Change request C-16, the planning call: the serial limit of source document 003, section 4, and whether groups keep to it. Assumes nothing.
use Rattle.std.specs.Prelude.{Result, Ok, Err, Bool, cond, ◌&&◌, List, ℕ, suc, ◌+◌, ◌-◌, ◌*◌, ◌/◌, leb, ℤ, pos, negsuc, neg_ℤ, ◌+ℤ◌, ◌*ℤ◌, ◌≤ℤ◌}
use Rattle.std.proofs.Math.IntN.{sub_ℕ}
use Rattle.std.specs.Int.Signed.{le_z}
use Rattle.std.specs.List.{list_all}
use Rattle.groups.specs.Groups.{groups_fit}
use Rattle.planning.specs.declared.Planned.{Planned}
use Rattle.planning.specs.declared.PlanRefusal.{PlanRefusal}
use Rattle.planning.specs.declared.PlanRefusal.TheVariants.{OutOfLimits}

-- "n−k is 1 to 6"
abbrev pub redundant_limit : ℕ
redundant_limit = 6

-- "t_p, the number of stopped clients, from 0 to 6"
abbrev pub stop_limit : ℕ
stop_limit = 6

-- a / b rounded up: a negative one loses its fraction
abbrev pub ceiling : ℤ → ℕ → ℤ
ceiling (pos a) b = pos ((a + (b - 1)) / b)
ceiling (negsuc a) b = neg_ℤ (pos (suc a / b))

-- "the serial limit of that section: (n−k)/(t_p+1) − t_p/2, rounded up after the subtraction"; redundant is n−k, stops is t_p, and
-- both fractions are over 2(t_p+1)
unfoldable pub serial_limit : ℕ → ℕ → ℤ
serial_limit redundant stops = ceiling (sub_ℕ (2 * redundant) (stops * (stops + 1))) (2 * (stops + 1))

-- the whole number m is not below (n−k)/(t_p+1) − t_p/2: 2(n−k) ≤ 2(t_p+1)·m + t_p(t_p+1)
abbrev pub NotBelow : ℕ → ℕ → ℤ → Type 0
NotBelow redundant stops m = pos (2 * redundant) ≤ℤ (pos (2 * (stops + 1)) *ℤ m +ℤ pos (stops * (stops + 1)))

-- the serial limit is the least whole number that is not below, for all n−k and t_p. Proved in proofs/Ceiling
pub record LeastNotBelow : Type 0 where
  pub not_below : (redundant stops : ℕ) → NotBelow redundant stops (serial_limit redundant stops)
  pub least : (redundant stops : ℕ) (m : ℤ) → NotBelow redundant stops m → serial_limit redundant stops ≤ℤ m

-- "whether every group is at most that limit"
abbrev pub every_at_most : ℤ → List ℕ → Bool
every_at_most limit sizes = list_all (λ size. le_z (pos size) limit) sizes

-- what is planned for: the sizes are those of the n−k redundant nodes' groups
abbrev pub planned : ℕ → List ℕ → ℕ → Bool
planned redundant sizes stops =
    leb 1 redundant && (leb redundant redundant_limit && (groups_fit redundant sizes && leb stops stop_limit))

-- "A planning call takes n−k, the group sizes and t_p .., and returns the serial limit .. It also says whether every group is at most that limit"
unfoldable pub plan_of : ℕ → List ℕ → ℕ → Result Planned PlanRefusal
plan_of redundant sizes stops =
    cond (planned redundant sizes stops)
    (Ok (record { limit = serial_limit redundant stops; kept = every_at_most (serial_limit redundant stops) sizes }))
    (Err OutOfLimits)

-- "Bad sizes or t_p are answered 1"
abbrev pub refusal_number : PlanRefusal → ℕ
refusal_number OutOfLimits = 1

abbrev pub plan_number : Result Planned PlanRefusal → ℕ
plan_number (Ok plan) = 0
plan_number (Err refusal) = refusal_number refusal
