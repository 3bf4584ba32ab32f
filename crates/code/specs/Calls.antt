-- Document 01, "Field and code": encoding and decoding on the caller's own buffers. The tests stand in the order of their numbers.
-- Assumes nothing.
use Rattle.std.specs.Prelude.{Result, Ok, Err, Bool, false, cond, ◌&&◌, ◌||◌, not, List, [], ◌∷◌, ℕ, ◌-◌, ◌*◌, eqb, leb, ltb, length}
use Rattle.std.specs.List.{list_any}
use Rattle.code.specs.Code.{code_sizes, redundant}
use Rattle.code.specs.Decode.{NodeSet, set_of, size, lowest, recovered_table, invertible}
use Rattle.code.specs.declared.CodeRefusal.{CodeRefusal}
use Rattle.code.specs.declared.CodeRefusal.TheVariants.{OutOfLimits, OutOfRange, TooFew, NoInverse}

-- "Numbers of the answers"
abbrev pub code_number : CodeRefusal → ℕ
code_number OutOfLimits = 1
code_number OutOfRange = 2
code_number (TooFew size) = 11
code_number NoInverse = 12

-- an accepted call's is 0
abbrev pub answer_number : Result (Unit {0}) CodeRefusal → ℕ
answer_number (Ok _) = 0
answer_number (Err refusal) = code_number refusal

-- a call's answer, and the buffer that it writes, after it
pub record Coded : Type 0 where
  pub answer : Result (Unit {0}) CodeRefusal
  pub out : List ℕ

abbrev pub accepted : List ℕ → Coded
accepted out = record { answer = Ok tt; out = out }

abbrev pub refused : CodeRefusal → List ℕ → Coded
refused refusal out = record { answer = Err refusal; out = out }

-- the k data blocks lent, and room for the n − k redundant blocks
abbrev pub encoding : ℕ → ℕ → ℕ → List ℕ → List ℕ → Coded
encoding k n b blocks out =
    cond (code_sizes k n b && (eqb (length blocks) (k * b) && eqb (length out) ((n - k) * b)))
    (accepted (redundant k n b blocks))
    (refused OutOfLimits out)

-- node j is among those given; some node given is not one of 1 to n
unfoldable pub is_in : List ℕ → ℕ → Bool
is_in [] j = false
is_in (x ∷ xs) j = eqb x j || is_in xs j

abbrev pub some_outside : ℕ → List ℕ → Bool
some_outside n nodes = list_any (λ j. not (leb 1 j && leb j n)) nodes

-- a node given twice is in the set once
abbrev pub given_set : List ℕ → NodeSet
given_set nodes = set_of (is_in nodes)

-- the set's nodes in any order, the table of n blocks lent, of which those of the set are read, and room for the k data blocks
abbrev pub decoding : ℕ → ℕ → ℕ → List ℕ → List ℕ → List ℕ → Coded
decoding k n b nodes blocks out =
    cond (not (code_sizes k n b && (eqb (length blocks) (n * b) && eqb (length out) (k * b))))
    (refused OutOfLimits out)
    (cond (some_outside n nodes)
    (refused OutOfRange out)
    (cond (ltb (size (given_set nodes)) k)
    (refused (TooFew (size (given_set nodes))) out)
    (cond (not (invertible k (lowest (given_set nodes))))
    (refused NoInverse out)
    (accepted (recovered_table k k b (given_set nodes) blocks)))))
