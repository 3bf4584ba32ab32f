-- Records of a table, counted from 1. Assumes nothing.
--     put-back      a record put back as it was.        gathered      all records, in an array
use Rattle.std.proofs.Common.{List, map, ◌≡◌, ℕ, ◌<◌, length, get_or, take, sym, ap, ◌∙◌, arith}
use Rattle.std.proofs.lemmas.List.{get_or-take}
use lib.ListN.{length-map, get_or-map}
use lib.Seq.{ext_get_or}
use Rattle.basics.specs.Lists.{element_at, list_of, set_at}
use Rattle.basics.proofs.Lists.{length-list_of, get_or-list_of}
use Rattle.machine.proofs.View.{set_same}

module _ {A : Type 0} where
  pub put-back : (l : List A) (j : ℕ) (d : A) {x y : A} → x ≡ element_at d l j → y ≡ x → set_at l j y ≡ l
  put-back l j d e same = ap (set_at l j) (same ∙ e) ∙ set_same (λ y. y) d l j

module _ {A B : Type 0} (f : A → B) where
  pub gathered : (l items : List A) (d : A) → take (length l) items ≡ l → list_of (length l) (λ i. f (get_or items i d)) ≡ map f l
  gathered l items d e =
      let item : ℕ → B = λ i. f (get_or items i d) in
      ext_get_or (f d) (list_of (length l) item) (map f l) (length-list_of (length l) item ∙ sym (length-map l f))
      (λ i h. let within : i < length l = omega (arith, length-list_of (length l) item, h) in
      get_or-list_of (length l) item i (f d) within
      ∙ ap f (sym (get_or-take (length l) items i d within) ∙ ap (λ (r : List A). get_or r i d) e) ∙ sym (get_or-map f l i d))
