-- Whether all pass, by the items that were tried. Assumes nothing.
use Rattle.std.proofs.Common.{rules, arith, ◌≡◌, true, false, take}
use Rattle.std.proofs.lemmas.Iterator.{cases_from_all, YieldsList-from_slice}
use borrow.Author.Tests.{tests}
use Rattle.limits.proofs.Limits.{clients-few}
use Rattle.records.specs.Client.{client_within}
use Rattle.records.specs.View.{client_of}
use Rattle.step.specs.View.{blank_client}
use Rattle.step.proofs.Records.{eight}
use Rattle.imaging.proofs.Writable.{every-first}
use Rattle.imaging.proofs.fits.are_clients_within.Goals as goal

pub shared_ref_as_front-iter : goal.shared_ref_as_front-iter
shared_ref_as_front-iter c = clients-few c.args.z c.requires

pub returns : goal.returns
returns c =
    every-first client_of blank_client (client_within c.args.z) c.args.z.m c.args.clients.items
    (omega (arith, clients-few c.args.z c.requires, eight c.args.clients _ c.well_formed.1.0)) _
    (cases_from_all _ _ _ (λ x. client_within c.args.z (client_of x) ≡ true) (λ x. client_within c.args.z (client_of x) ≡ false) c.all.ensures.ran
    (YieldsList-from_slice (take c.args.z.m c.args.clients.items) c.iter.ensures.rest)
    (λ x q k. search (rules, tests)) (λ x q k. search (rules, tests)))
