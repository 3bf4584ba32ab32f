-- The first recent entry from the end. Assumes nothing.
use Rattle.std.proofs.Common.{◌≡◌, refl, ap, Option, None, Some, length, take, rules, tests, arith, ◌∙◌}
use Rattle.std.specs.Option.{MatchOption, IsSomeAnd, option_map}
use Rattle.std.proofs.lemmas.Iterator.Adapters.{YieldsList-from_rev_slice}
use Rattle.std.proofs.lemmas.Iterator.Search.{find_from_yields_List}
use Rattle.entries.specs.Entries.{is_recent}
use Rattle.entries.specs.View.{entry_of, blank_entry}
use Rattle.entries.proofs.Lists.{list_of-take, last-of}
use Rattle.entries.proofs.node_entries.Entries.last_recent.Goals as goal

mapped : {A B : Type 0} (f : A → B) (P : A → B → Type 0) (o : Option A) (r : Option B) → MatchOption o (r ≡ None) (λ x. IsSomeAnd r (P x))
    → ((x : A) (y : B) → P x y → y ≡ f x) → r ≡ option_map f o
mapped f P None r m h = m
mapped f P (Some x) (Some y) m h = ap Some (h x y m)
mapped f P (Some x) None m h = absurd m

twice : {A B C : Type 0} (f : B → C) (v : A → B) (o : Option A) → option_map (λ x. f (v x)) o ≡ option_map f (option_map v o)
twice f v None = refl
twice f v (Some x) = refl

pub returns : goal.returns
returns c = let s = c.args.self in
    let l = take s.count s.items in
    let room : length s.items ≡ 16 = search rules in
    let found = find_from_yields_List (λ e. is_recent (entry_of e)) _ _ _ c.find.ensures.ran (YieldsList-from_rev_slice l cc) (λ x b q k. search (rules, tests)) in
    mapped (λ x. (entry_of x.now).id) _ c.find.result c.map.result c.map.ensures.cases (λ x y q. search rules)
    ∙ twice (λ e. (entry_of e).id) (λ x. x.now) c.find.result
    ∙ ap (option_map (λ e. (entry_of e).id)) found
    ∙ last-of l
    ∙ rw (list_of-take entry_of s.items blank_entry s.count (omega (arith, room)))
