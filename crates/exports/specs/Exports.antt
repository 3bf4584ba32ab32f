-- What the exported functions answer. Assumes nothing.
use Rattle.std.specs.Prelude.{Result, Ok, Err, cond, List, ℕ, ◌+◌, ◌*◌, eqb, length}
use Rattle.blocks.specs.Blocks.{add_times}
use Rattle.code.specs.Calls.{Coded, code_number}
use Rattle.code.specs.declared.CodeRefusal.{CodeRefusal}
use Rattle.code.specs.declared.CodeRefusal.TheVariants.{OutOfLimits, OutOfRange, TooFew, NoInverse}

-- the size that a refusal gives
abbrev pub size_in : CodeRefusal → ℕ
size_in (TooFew size) = size
size_in OutOfLimits = 0
size_in OutOfRange = 0
size_in NoInverse = 0

-- an answer as one number
abbrev pub answer_of : Result (Unit {0}) CodeRefusal → ℕ
answer_of (Ok _) = 0
answer_of (Err refusal) = code_number refusal + 256 * size_in refusal

-- a call's answer, and the buffer that it writes, after it
pub record Answered : Type 0 where
  pub answer : ℕ
  pub out : List ℕ

abbrev pub answered : Coded → Answered
answered c = record { answer = answer_of c.answer; out = c.out }

abbrev pub added : ℕ → List ℕ → List ℕ → Answered
added c src dst =
    cond (eqb (length dst) (length src))
    (record { answer = 0; out = add_times c dst src })
    (record { answer = 1; out = dst })
