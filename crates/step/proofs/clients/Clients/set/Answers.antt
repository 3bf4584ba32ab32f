-- A store at item c - 1, if there is such a client. Assumes nothing.
use mathlib.Core.Path.{sym}
use native.Mathlib.Omega.{arith}
use Rattle.records.specs.View.{client_of}
use Rattle.step.specs.View.{blank_client, clients_of}
use Rattle.step.proofs.Items.{set-none, set_past, seen-count, seen-set}
use Rattle.step.proofs.Records.{eight}
use Rattle.step.proofs.clients.Clients.set.Goals as goal

pub returns-then-j-lt1 : goal.returns-then-j-lt1
returns-then-j-lt1 c = let args = c.args in sym (set-none (clients_of args.m args.self) args.c (client_of args.client) c.if-j-lt1.true)

pub returns-then-m-j : goal.returns-then-m-j
returns-then-m-j c = let args = c.args in
    sym (set_past (clients_of args.m args.self) args.c (client_of args.client) (omega (arith, seen-count client_of blank_client args.m args.self.items)))

pub returns : goal.returns
returns c = let args = c.args in
    seen-set client_of blank_client args.m args.self.items args.c args.client (omega arith) (omega arith) (omega (arith, eight args.self _ c.well_formed.0))
