-- What the call answers and leaves, by its tests. Assumes nothing.
use mathlib.Core.Bool.{true, false}
use mathlib.Core.List.{List, []}
use mathlib.Core.Logic.{◌≢◌}
use mathlib.Core.Path.{◌≡◌, refl, sym, ◌∙◌}
use Prim.Native.Nat.{ℕ}
use lib.ListN.{length}
use borrow.Author.Tests.{eq-eqb, ne_eqb}
use Rattle.calls.specs.declared.Answer.TheVariants.{Accepted, Refused}
use Rattle.calls.specs.Answers.{Meets}
use Rattle.image.specs.Image.{image, image_length, writable}
use Rattle.image.specs.Places.{length_by}
use Rattle.machine.specs.Stripe.{Stripe, guard}
use Rattle.records.specs.declared.Refusal.TheVariants.{OutOfLimits}
use Rattle.records.specs.declared.Sizes.{Sizes}
use Rattle.imaging.specs.Imaging.{written}
use Rattle.imaging.proofs.Laws.{sizes-of}

module _ (z : Sizes) (s : Stripe) (out : List ℕ) where
  pub refused-outside : writable z s ≡ false → Meets (written z s out) (Refused OutOfLimits) [] out (out ≡ out)
  unfolding guard
  refused-outside h = record { said = rw h; left = refl }

  -- r is the length by the sizes, as the code asks for it
  module _ {r : ℕ} (h : writable z s ≡ true) (e : r ≡ length_by z) where
    is-length : r ≡ image_length z
    is-length = e ∙ rw (sizes-of z s h)

    pub refused-length : length out ≢ r → Meets (written z s out) (Refused OutOfLimits) [] out (out ≡ out)
    unfolding guard
    refused-length n = record { said = rw (h, ne_eqb (length out) (image_length z) (λ q. n (q ∙ sym is-length))); left = refl }

    pub fits-length : length out ≡ r → length out ≡ image_length z
    fits-length q = q ∙ is-length

  pub accepted : {out' : List ℕ} → writable z s ≡ true → length out ≡ image_length z → out' ≡ image z s → Meets (written z s out) Accepted [] out' (out' ≡ out)
  unfolding guard
  accepted h q e = record { said = rw (h, eq-eqb (length out) (image_length z) q, e); left = tt }
