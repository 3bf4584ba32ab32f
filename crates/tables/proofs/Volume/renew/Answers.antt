-- By whether the tables have their lengths. Assumes nothing.
use mathlib.Core.Path.{refl, ap, ◌∙◌}
use Rattle.std.proofs.Common.{map}
use Rattle.records.specs.View.{client_of, node_of}
use Rattle.tables.proofs.Renewing.{map_replicate}
use Rattle.tables.proofs.Volume.renew.Goals as goal

pub returns-then-not-fits_fresh : goal.returns-then-not-fits_fresh
returns-then-not-fits_fresh c = rw (← c.fits_fresh.ensures, c.if-not-fits_fresh.true) (refl, (refl, (refl, refl)))

pub returns : goal.returns
returns c = rw (← c.fits_fresh.ensures, c.if-not-fits_fresh.false) (
  refl,
  (
    ap (map node_of) (c.fill.ensures.after (λ y e. e)) ∙ map_replicate node_of _ _ ∙ rw c.fresh.ensures,
    (ap (map client_of) (c.fill-2.ensures.after (λ y e. e)) ∙ map_replicate client_of _ _ ∙ rw c.fresh-2.ensures, c.clear.ensures),
  ),
)
