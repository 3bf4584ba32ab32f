-- Item c - 1, if there is such a client. Assumes nothing.
use native.Mathlib.Omega.{arith}
use Rattle.records.specs.Client.{fresh_client}
use Rattle.records.specs.View.{client_of}
use Rattle.step.specs.View.{blank_client}
use Rattle.step.proofs.Items.{seen_at}
use Rattle.step.proofs.Records.{eight}
use Rattle.step.proofs.clients.Clients.get.Goals as goal

pub returns : goal.returns
returns c = let a = c.args in
    seen_at client_of blank_client a.m a.self.items (omega (arith, c.requires, eight a.self _ c.well_formed.0)) a.c c.fresh.result fresh_client c.fresh.ensures c.record_at.ensures
