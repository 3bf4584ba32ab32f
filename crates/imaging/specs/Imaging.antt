-- Change request C-13: the call that writes an image, and what its parts leave in the buffer. Assumes nothing.
use Rattle.std.specs.Prelude.{not, ◌&&◌, List, ◌++◌, ℕ, ◌+◌, ◌-◌, ◌≤◌, ◌<◌, eqb, length, get_or}
use Rattle.octets.specs.Octets.{word_bytes}
use Rattle.image.specs.Image.{image, image_length, writable}
use Rattle.machine.specs.Stripe.{Stripe, Outcome, Accepted, answered, guard}
use Rattle.records.specs.declared.Refusal.TheVariants.{OutOfLimits}
use Rattle.records.specs.declared.Sizes.{Sizes}

-- "The buffer must have exactly the image's length, otherwise the answer is 1 and the buffer keeps its bytes. Writing an image changes no state": what
-- the call answers, and the buffer as it leaves it
abbrev pub written : Sizes → Stripe → List ℕ → Outcome (List ℕ)
written z s out = guard (not (writable z s && eqb (length out) (image_length z))) OutOfLimits out (answered Accepted (image z s))

-- a pair of the header: where a section begins, and how long it is
abbrev pub pair_bytes : ℕ → ℕ → List ℕ
pair_bytes begin end = word_bytes begin ++ word_bytes (end - begin)

-- the seven bounds of the sections rise, and each is in a word
pub record Rises (bounds : List ℕ) : Type 0 where
  pub rise : (i : ℕ) → i < 6 → get_or bounds i 0 ≤ get_or bounds (i + 1) 0
  pub small : (i : ℕ) → i < 6 → get_or bounds (i + 1) 0 < 4294967296
