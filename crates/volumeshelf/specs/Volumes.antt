-- The five tables that are lent, as a volume, and what the contract of an entry point says: the machine's call on it gives the answer and what is left.
-- What is primed is as the call leaves it. Assumes nothing.
use Rattle.std.specs.Prelude.{Bool, cond, ◌&&◌, not, List, [], ◌≡◌, ℕ, ◌*◌, eqb, drop, length, replicate, take}
use Rattle.basics.specs.Lists.{list_of}
use Rattle.calls.specs.declared.Answer.{Answer}
use Rattle.calls.specs.declared.Answer.TheVariants.{Accepted, Refused}
use Rattle.calls.specs.Answers.{Meets, answer_of}
use Rattle.calls.specs.Calls.{step_of}
use Rattle.machine.specs.Calls as Calls
use Rattle.machine.specs.Stripe.{Outcome, answered, guard}
use Rattle.records.specs.declared.ClientRecord.{ClientRecord}
use Rattle.records.specs.declared.NodeRecord.{NodeRecord}
use Rattle.records.specs.declared.Refusal.TheVariants.{OutOfLimits}
use Rattle.records.specs.Client.{fresh_client}
use Rattle.records.specs.Node.{fresh_node}
use Rattle.taking.specs.Lent.{stripe_in}
use Rattle.taking.specs.Table.{clients_in, nodes_in}
use Rattle.volume.specs.Volume as Machine
use Rattle.volume.specs.Volume.{on, volume_step}
use Rattle.routing.specs.declared.ReadRequest.{ReadRequest}
use Rattle.routing.specs.declared.Request.{Request}
use Rattle.routing.specs.declared.SizedRead.{SizedRead}
use Rattle.routing.specs.declared.VolumeCall.{VolumeCall}
use Rattle.routing.specs.declared.VolumeCall.TheVariants.{Pick, Step}
use Rattle.routing.specs.Walks.{shown_of, sized_of}
use Rattle.tables.specs.declared.Volume.{Volume}
use Rattle.tables.specs.Renewals.{fresh_fits}

-- stripe s has `each` elements of a table, after those of the stripes before it
abbrev pub of_stripe : {X : Type 0} → ℕ → ℕ → List X → List X
of_stripe s each table = take each (drop (s * each) table)

abbrev pub volume_in : Volume → List NodeRecord → List ClientRecord → List ℕ → List ℕ → List ℕ → Machine.Volume
volume_in v nodes clients blocks spare differences =
    let n = v.z.n in
    let m = v.z.m in
    let b = v.z.b in
    record {
      stripes = list_of v.stripes (λ s. stripe_in (of_stripe s n nodes) (of_stripe s m clients) (of_stripe s (n * b) blocks) (of_stripe s (n * b) spare)
          (of_stripe s (m * b) differences));
    }

-- the call as the machine's; the bytes of a swap or a card's failure are beside it
abbrev pub call_of : VolumeCall → List ℕ → Calls.Call
call_of (Pick c) value = Calls.Pick c
call_of (Step call) value = step_of call value

-- 1 for the lengths of the tables: n and m records, n blocks and as much spare, m differences for each stripe
abbrev pub tables_fit : Volume → List NodeRecord → List ClientRecord → List ℕ → List ℕ → List ℕ → Bool
tables_fit v nodes clients blocks spare differences =
    let n = v.z.n in
    let m = v.z.m in
    let b = v.z.b in
    eqb (length nodes) (v.stripes * n) && (eqb (length clients) (v.stripes * m) && (eqb (length blocks) (v.stripes * (n * b))
    && (eqb (length spare) (v.stripes * (n * b)) && eqb (length differences) (v.stripes * (m * b)))))

abbrev pub calling : Request → List ℕ → List NodeRecord → List ClientRecord → List ℕ → List ℕ → List ℕ → Outcome Machine.Volume
calling q value nodes clients blocks spare differences =
    let v = volume_in q.volume nodes clients blocks spare differences in
    guard (not (tables_fit q.volume nodes clients blocks spare differences)) OutOfLimits v
    (volume_step q.volume.z (on q.stripe (call_of q.call value)) v)

-- where a refusal leaves all unchanged, it hands back the very tables
abbrev pub CallsVolume : List NodeRecord → List ClientRecord → List ℕ → List ℕ → List ℕ → List ℕ → Request → Answer
    → List NodeRecord → List ClientRecord → List ℕ → List ℕ → List ℕ → Type 0
CallsVolume nodes clients blocks spare differences value q answer nodes' clients' blocks' spare' differences' =
    Meets (calling q value nodes clients blocks spare differences) answer [] (volume_in q.volume nodes' clients' blocks' spare' differences')
    ((nodes' ≡ nodes) × ((clients' ≡ clients) × ((blocks' ≡ blocks) × ((spare' ≡ spare) × (differences' ≡ differences)))))

-- a read is lent all tables but the differences
abbrev pub reading : Volume → ℕ → ℕ → List NodeRecord → List ClientRecord → List ℕ → List ℕ → List ℕ → Outcome Machine.Volume
reading v stripe i nodes clients blocks spare differences =
    let tables = volume_in v nodes clients blocks spare differences in
    let n = v.z.n in
    let b = v.z.b in
    guard
    (not (eqb (length nodes) (v.stripes * n) && (eqb (length clients) (v.stripes * v.z.m)
    && (eqb (length blocks) (v.stripes * (n * b)) && eqb (length spare) (v.stripes * (n * b))))))
    OutOfLimits tables (volume_step v.z (on stripe (Calls.Read i)) tables)

-- with blocks and a spare of these lengths, whatever is in them, the answer is the machine's, and the block that it names is the one that the machine shows
abbrev pub AnswersVolume : List NodeRecord → List ClientRecord → SizedRead → Answer → Type 0
AnswersVolume nodes clients q answer =
    (blocks spare differences : List ℕ) → q.blocks ≡ length blocks → q.spare ≡ length spare →
    answered (answer_of answer (shown_of q answer blocks spare)) (volume_in q.volume nodes clients blocks spare differences)
    ≡ reading q.volume q.stripe q.i nodes clients blocks spare differences

-- the answer, with the part that is handed back, is the machine's; the part is what the answer names, and nothing where it names nothing
pub record ReadsVolume (nodes : List NodeRecord) (clients : List ClientRecord) (blocks spare : List ℕ) (q : ReadRequest) (answer : Answer) (part : List ℕ)
    : Type 0 where
  pub said : (differences : List ℕ) →
      answered (answer_of answer part) (volume_in q.volume nodes clients blocks spare differences)
      ≡ reading q.volume q.stripe q.i nodes clients blocks spare differences
  pub shows : part ≡ shown_of (sized_of q (length blocks) (length spare)) answer blocks spare

-- "Fresh: zero blocks and counts, NORM, UNL, empty lists", in every stripe; or 1, with the very tables
pub record Renewed (v : Volume) (answer : Answer) (nodes : List NodeRecord) (clients : List ClientRecord) (blocks : List ℕ) : Type 0 where
  pub accepted : answer ≡ Accepted
  pub nodes_are : nodes_in nodes ≡ replicate (v.stripes * v.z.n) fresh_node
  pub clients_are : clients_in clients ≡ replicate (v.stripes * v.z.m) fresh_client
  pub blocks_are : blocks ≡ replicate (v.stripes * (v.z.n * v.z.b)) 0

abbrev pub FreshVolume : List NodeRecord → List ClientRecord → List ℕ → Volume → Answer → List NodeRecord → List ClientRecord → List ℕ → Type 0
FreshVolume nodes clients blocks v answer nodes' clients' blocks' =
    cond (fresh_fits v (length nodes) (length clients) (length blocks)) (Renewed v answer nodes' clients' blocks')
    ((answer ≡ Refused OutOfLimits) × ((nodes' ≡ nodes) × ((clients' ≡ clients) × (blocks' ≡ blocks))))
