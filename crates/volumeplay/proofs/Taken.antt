-- The records that are taken out of a table, one by one. Assumes nothing.
use mathlib.Core.List.{List}
use mathlib.Core.Path.{◌≡◌, sym, ap, subst, ◌∙◌}
use Prim.Native.Nat.{ℕ, ◌+◌, ◌-◌, ◌<◌}
use native.Mathlib.Omega.{arith}
use lib.ListN.{drop, get_or, length}
use lib.Seq.{get_or-drop, get_or-take}
use Rattle.std.specs.Prelude.{Option, Some}
use Rattle.parts.specs.Inside.{Range, part_in}
use Rattle.parts.proofs.Part.{counts}
use Rattle.tables.specs.Parts.{part_of}
use Rattle.tables.proofs.Parts.{part-within}
use Rattle.volumeplay.specs.Stripes.{Took, range_of}

module _ {T : Type 0} (table : List T) (s each limit : ℕ) (items : List T) (took : Took table s each limit items) (d : T) where
  abbrev Each : Range → Type 0
  Each p = (j : ℕ) → j < p.end - p.first → j < limit → get_or items j d ≡ get_or table (p.first + j) d

  in-part : Each (part_of s each (length table))
  in-part j l few =
      let p = part_of s each (length table) in
      let part = part_in p table in
      let count = counts p table (part-within s each (length table)) in
      sym (get_or-take (length part) items j d (omega (arith, l, count)))
      ∙ ap (λ (xs : List T). get_or xs j d) took
      ∙ get_or-take limit part j d few
      ∙ get_or-take (p.end - p.first) (drop p.first table) j d l
      ∙ get_or-drop p.first table j d

  -- where a line prints stripe s
  pub taken : (looked : Option ℕ) → looked ≡ Some s → Each (range_of looked each (length table))
  taken looked e = subst (λ (l : Option ℕ). Each (range_of l each (length table))) (sym e) in-part
