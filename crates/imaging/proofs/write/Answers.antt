-- The two tests, and then the image. Assumes nothing.
use mathlib.Core.Path.{sym, ◌∙◌}
use Rattle.step.specs.View.{stripe_of}
use Rattle.imaging.proofs.Written.{refused-outside, refused-length, fits-length, accepted}
use Rattle.imaging.proofs.write.Goals as goal
use Rattle.imaging.proofs.write.Goals.{then-not-is_writable-via-then-not-is_writable, then-not-is_writable-via-else-not-is_writable+then-out-length}

pub returns-then-not-is_writable : goal.returns-then-not-is_writable
returns-then-not-is_writable c = let a = c.args in
    let s = stripe_of a.z a.stripe a.blocks.now a.spare.now a.differences.now in
    elim c.then-not-is_writable.branch [
      | then-not-is_writable-via-then-not-is_writable w ↦ refused-outside a.z s a.out.now (sym c.is_writable.ensures ∙ w.if-not-is_writable.true)
      | then-not-is_writable-via-else-not-is_writable+then-out-length w ↦
          refused-length a.z s a.out.now (sym c.is_writable.ensures ∙ w.if-not-is_writable.false) w.length.ensures w.if-out-length.true
    ]

pub put_image-requires : goal.put_image-requires
put_image-requires c = let a = c.args in
    let ok = sym c.is_writable.ensures ∙ c.if-not-is_writable.false in
    (ok, fits-length a.z (stripe_of a.z a.stripe a.blocks.now a.spare.now a.differences.now) a.out.now ok c.length.ensures c.if-out-length.false)

pub returns : goal.returns
returns c = let a = c.args in
    let s = stripe_of a.z a.stripe a.blocks.now a.spare.now a.differences.now in
    let ok = sym c.is_writable.ensures ∙ c.if-not-is_writable.false in
    accepted a.z s a.out.now ok (fits-length a.z s a.out.now ok c.length.ensures c.if-out-length.false) c.put_image.ensures
