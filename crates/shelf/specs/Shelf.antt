-- What the contract of an entry point says: the machine's call on what is lent gives the answer and what is left. What is primed is as
-- the call leaves it. Assumes nothing.
use Rattle.std.specs.Prelude.{List, [], ◌≡◌, ℕ}
use Rattle.calls.specs.declared.Answer.{Answer}
use Rattle.calls.specs.Answers.{Meets, answer_of, shown_part}
use Rattle.calls.specs.Calls.{step_of}
use Rattle.imaging.specs.Imaging.{written}
use Rattle.machine.specs.Calls.{Pick, Read}
use Rattle.machine.specs.Stripe.{answered}
use Rattle.records.specs.declared.ClientRecord.{ClientRecord}
use Rattle.records.specs.declared.NodeRecord.{NodeRecord}
use Rattle.records.specs.declared.Sizes.{Sizes}
use Rattle.taking.specs.declared.PickRequest.{PickRequest}
use Rattle.taking.specs.declared.ReadRequest.{ReadRequest}
use Rattle.taking.specs.declared.Request.{Request}
use Rattle.taking.specs.Lent.{on_tables, stripe_in}

-- where a refusal leaves all unchanged, it hands back the very tables
abbrev pub StepsLent : List NodeRecord → List ClientRecord → List ℕ → List ℕ → List ℕ → List ℕ → Request → Answer
    → List NodeRecord → List ClientRecord → List ℕ → List ℕ → List ℕ → Type 0
StepsLent nodes clients blocks spare differences value q answer nodes' clients' blocks' spare' differences' =
    Meets (on_tables q.z (step_of q.call value) (stripe_in nodes clients blocks spare differences))
    answer [] (stripe_in nodes' clients' blocks' spare' differences')
    ((nodes' ≡ nodes) × ((clients' ≡ clients) × ((blocks' ≡ blocks) × ((spare' ≡ spare) × (differences' ≡ differences)))))

-- a read, whatever the differences are: the answer, with the part that is handed back, is the machine's; the part is what the answer names, and nothing
-- where it names nothing
pub record ReadsLent (nodes : List NodeRecord) (clients : List ClientRecord) (blocks spare : List ℕ) (q : ReadRequest) (answer : Answer) (part : List ℕ)
    : Type 0 where
  pub said : (differences : List ℕ) →
      let s = stripe_in nodes clients blocks spare differences in
      answered (answer_of answer part) s ≡ on_tables q.z (Read q.i) s
  pub shows : part ≡ shown_part answer q.z.b q.i blocks spare

-- whatever the differences are
abbrev pub PicksLent : List NodeRecord → List ClientRecord → List ℕ → List ℕ → PickRequest → Answer
    → List NodeRecord → List ClientRecord → List ℕ → Type 0
PicksLent nodes clients spare blocks q answer nodes' clients' spare' =
    (differences : List ℕ)
    → Meets (on_tables q.z (Pick q.c) (stripe_in nodes clients blocks spare differences))
    answer [] (stripe_in nodes' clients' blocks spare' differences) ((nodes' ≡ nodes) × (clients' ≡ clients))

-- by the parameter list of a step: a pick writes the spare alone
abbrev pub PicksOnly : List NodeRecord → List ClientRecord → List ℕ → List ℕ → List ℕ → List ℕ → PickRequest → Answer
    → List NodeRecord → List ClientRecord → List ℕ → List ℕ → List ℕ → Type 0
PicksOnly nodes clients blocks spare differences value q answer nodes' clients' blocks' spare' differences' =
    (blocks' ≡ blocks) × ((differences' ≡ differences) × PicksLent nodes clients spare blocks q answer nodes' clients' spare')

-- an image writes the buffer that is lent, and nothing else
abbrev pub ImagesLent : List NodeRecord → List ClientRecord → List ℕ → List ℕ → List ℕ → List ℕ → Sizes → Answer → List ℕ → Type 0
ImagesLent nodes clients out blocks differences spare z answer out' =
    Meets (written z (stripe_in nodes clients blocks spare differences) out) answer [] out' (out' ≡ out)
