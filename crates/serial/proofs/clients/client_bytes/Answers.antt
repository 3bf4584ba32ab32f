-- Five parts, one after the other. Assumes nothing.
use mathlib.Core.Path.{refl}
use mathlib.Core.List.{◌∷◌}
use native.Mathlib.Omega.{arith}
use Rattle.octets.specs.Octets.{word_bytes}
use Rattle.octets.proofs.Filling.{full}
use Rattle.image.specs.Records.{hand_bytes, rebuild_bytes, ids_bytes, client_bytes}
use Rattle.records.specs.View.{client_of}
use Rattle.serial.proofs.Rows.{four, fill-array}
use Rattle.serial.proofs.clients.client_bytes.Goals as goal

pub returns : goal.returns
unfolding client_bytes
returns c = let x = client_of c.args.x in
    full
    (fill-array 49 135 (ids_bytes x.moved)
    (fill-array 49 86 (ids_bytes x.finished)
    (fill-array 5 37 (x.round ∷ word_bytes x.next.0)
    (fill-array 10 32 (rebuild_bytes x.rebuild)
    (fill-array 22 22 (hand_bytes x.hand) (record { begins = refl; long = refl }) c.put.ensures c.hand_bytes-h.ensures (omega (arith, c.hand_bytes-h.type_inv)) refl)
    c.put-2.ensures c.rebuild_bytes-p.ensures (omega (arith, c.rebuild_bytes-p.type_inv)) refl)
    c.put-3.ensures (λ k. x.round ∷ four (c.word_bytes-n.ensures k)) refl refl)
    c.put-4.ensures c.ids_bytes-f.ensures (omega (arith, c.ids_bytes-f.type_inv)) refl)
    c.put-5.ensures c.ids_bytes-m.ensures (omega (arith, c.ids_bytes-m.type_inv)) refl)
    refl
