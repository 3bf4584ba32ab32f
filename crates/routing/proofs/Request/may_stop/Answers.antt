-- Each record passes. Assumes nothing.
use Rattle.std.proofs.Common.{rules, tests, ◌≡◌, ◌∙◌}
use Rattle.std.specs.List.{enumerate_from, list_all}
use Rattle.std.proofs.lemmas.Iterator.{YieldsList-from_slice}
use Rattle.std.proofs.lemmas.Iterator.Consumers.{YieldsList-from_enumerate}
use Rattle.std.proofs.lemmas.Iterator.Search.{all_from_yields_List}
use Rattle.routing.specs.Walks.{client_passes, node_passes}
use Rattle.routing.proofs.Request.may_stop.Goals as goal

pub returns-then-all : goal.returns-then-all
returns-then-all c = let a = c.args in
    let nodes : c.all.result ≡ list_all (node_passes a.self.volume.z) a.nodes.now =
    all_from_yields_List (node_passes a.self.volume.z) _ _ _ c.all.ensures.ran (YieldsList-from_slice a.nodes.now cc) (λ x b q k. search (rules, tests)) in
    let clients : c.all-then-all.result ≡ list_all (client_passes a.self.volume.z c.stopping-c.result) (enumerate_from 0 a.clients.now) =
    all_from_yields_List (client_passes a.self.volume.z c.stopping-c.result) _ _ _ c.all-then-all.ensures.ran
    (YieldsList-from_enumerate (YieldsList-from_slice a.clients.now cc) c.enumerate.ensures.count) (λ x b q k. search (rules, tests)) in
    clients ∙ rw (← nodes, c.if-all.true, c.stopping-c.ensures)
