-- Document 01, "Stripe examples (k=2, n=4, B=1)", the starred ones: what the definitions give, and what the document says, example by example.
-- Assumes nothing.
use Rattle.std.specs.Prelude.{List, [], ◌∷◌, ◌++◌, ℕ, zero, suc}
use Rattle.code.specs.Code.{redundant}
use Rattle.code.specs.Decode.{members, recovered_table}
use Rattle.code.specs.Calls.{given_set}
use Rattle.records.specs.declared.Sizes.{Sizes}
use Rattle.records.specs.declared.Returned.{Returned}
use Rattle.records.specs.declared.Returned.TheVariants.{Nothing, Modes, NodeEpoch, PreviousId, SetSize}
use Rattle.records.specs.Refusals.{returned_with}
use Rattle.machine.specs.Stripe.{Stripe, Answer, Accepted, Shown, Added, Done, Rebuilt, Told, Refused, number, fresh}
use Rattle.machine.specs.Stripe.{node_at}
use Rattle.machine.specs.Calls.{Call, swap, add, stop, fail, lock, pick, write, settle, step}

abbrev pub sizes : ℕ → Sizes
sizes failures = record { k = 2; n = 4; b = 1; failures = failures; m = 2 }

-- the stripe after calls on a fresh one; any bytes in the spare and the differences
unfoldable pub after : Sizes → List Call → Stripe → Stripe
after z [] s = s
after z (call ∷ calls) s = after z calls (step z call s).after

abbrev pub ran : ℕ → List Call → Stripe
ran failures calls = after (sizes failures) calls (fresh (sizes failures) (170 ∷ 170 ∷ 170 ∷ 170 ∷ []) (85 ∷ 85 ∷ []))

unfoldable pub times : ℕ → Call → List Call
times zero call = []
times (suc n) call = call ∷ times n call

-- client 2 locks all four nodes
abbrev pub locks : List Call
locks = times 4 (lock 2)

-- the answer's number and the size returned
abbrev pub size_of : Returned → List ℕ
size_of Nothing = []
size_of (Modes opmode lmode) = []
size_of (NodeEpoch epoch) = []
size_of (PreviousId id) = []
size_of (SetSize size) = size ∷ []

abbrev pub returned : Answer → List ℕ
returned Accepted = []
returned (Shown source block) = block
returned Added = []
returned Done = []
returned Rebuilt = []
returned (Told finding) = []
returned (Refused why) = size_of (returned_with why)

abbrev pub pick_after : ℕ → List Call → List ℕ
pick_after failures calls =
    let outcome = step (sizes failures) (pick 2) (ran failures (calls ++ locks)) in number outcome.answer ∷ returned outcome.answer

-- the set, which node 1 has once all are written; then the four blocks and the epochs of nodes 1 and 4, settled
abbrev pub told : Stripe → Stripe → List ℕ
told written settled =
    members (node_at written.nodes 1).rset ++ (settled.blocks ++ ((node_at settled.nodes 1).epoch.0 ∷ (node_at settled.nodes 4).epoch.0 ∷ []))

abbrev pub settled_from : ℕ → Stripe → List ℕ
settled_from failures written = told written (after (sizes failures) (times 4 (settle 2)) written)

abbrev pub rebuilt_after : ℕ → List Call → List ℕ
rebuilt_after failures calls = settled_from failures (ran failures (calls ++ (locks ++ (pick 2 ∷ times 4 (write 2)))))

-- "Client 1 swaps 01 into 1, adds at 3, stops"
abbrev pub half_written : List Call
half_written = swap 1 1 (1 ∷ []) ∷ add 1 3 ∷ stop 1 ∷ []

-- c1 to c8 are what the definitions give, d1 to d8 what the document says

-- 1. "Data 01 00 gives 0x8E 0xF4 (142, 244)."
abbrev pub c1 : List ℕ
c1 = redundant 2 4 1 (1 ∷ 0 ∷ [])

abbrev pub d1 : List ℕ
d1 = 142 ∷ 244 ∷ []

-- 2. "00 01 gives 0xF4 0x8E."
abbrev pub c2 : List ℕ
c2 = redundant 2 4 1 (0 ∷ 1 ∷ [])

abbrev pub d2 : List ℕ
d2 = 244 ∷ 142 ∷ []

-- 3. "01 01 gives 0x7A 0x7A (122)."
abbrev pub c3 : List ℕ
c3 = redundant 2 4 1 (1 ∷ 1 ∷ [])

abbrev pub d3 : List ℕ
d3 = 122 ∷ 122 ∷ []

-- 4. "02 00 gives 0x01 0xF5 (245)."
abbrev pub c4 : List ℕ
c4 = redundant 2 4 1 (2 ∷ 0 ∷ [])

abbrev pub d4 : List ℕ
d4 = 1 ∷ 245 ∷ []

-- 5. "0x7A 0x7A at nodes 3, 4 decodes to 01 01."
abbrev pub c5 : List ℕ
c5 = recovered_table 2 2 1 (given_set (3 ∷ 4 ∷ [])) (0 ∷ 0 ∷ 122 ∷ 122 ∷ [])

abbrev pub d5 : List ℕ
d5 = 1 ∷ 1 ∷ []

-- 6. "the set is {1,2,3}, rebuilt 01 00 0x8E 0xF4, epoch 1."
abbrev pub c6 : List ℕ
c6 = rebuilt_after 1 half_written

abbrev pub d6 : List ℕ
d6 = 1 ∷ 2 ∷ 3 ∷ 1 ∷ 0 ∷ 142 ∷ 244 ∷ 1 ∷ 1 ∷ []

-- 7. "The same with t_d=2: 11 with 3."
abbrev pub c7 : List ℕ
c7 = pick_after 2 half_written

abbrev pub d7 : List ℕ
d7 = 11 ∷ 3 ∷ []

-- 8. "As 6, but node 1 then fails: {2,3}, and 01 is kept."
abbrev pub c8 : List ℕ
c8 = rebuilt_after 1 (half_written ++ (fail 1 (9 ∷ []) ∷ []))

abbrev pub d8 : List ℕ
d8 = 2 ∷ 3 ∷ 1 ∷ 0 ∷ 142 ∷ 244 ∷ 1 ∷ 1 ∷ []

-- the one list: proofs/Starred shows that the two are equal
abbrev pub definitions : List (List ℕ)
definitions = c1 ∷ c2 ∷ c3 ∷ c4 ∷ c5 ∷ c6 ∷ c7 ∷ c8 ∷ []

abbrev pub document : List (List ℕ)
document = d1 ∷ d2 ∷ d3 ∷ d4 ∷ d5 ∷ d6 ∷ d7 ∷ d8 ∷ []
