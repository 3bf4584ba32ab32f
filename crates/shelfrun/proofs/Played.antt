-- What a reader gives and a writer takes, read by read: the writer holds what the reader's bytes print. Assumes nothing.
use Rattle.std.specs.Prelude.{◌≡◌, List, [], ◌++◌, ℕ, ◌+◌, ◌-◌, ◌≤◌, Option, None, Some, Result, Ok, Err, OnErr, refl, length, replicate, take}
use Rattle.std.specs.Io.KnownBytes.{Appends, Consumes, IsAtEnd}
use Rattle.std.proofs.Common.{sym, ◌∙◌, ap, subst, append_assoc, append-nil, arith}
use Rattle.std.proofs.Math.ListN.{length-append, length-take}
use Rattle.shelfrun.specs.Shelfrun.{State, start, output_of, left, last_output, shelfrun}
use Rattle.shelfrun.specs.Feeding.{Ended, Feeds, Keeps, Played, Prints}
use Rattle.shelfrun.specs.declared.feeding.Shelf.{Shelf}
use Rattle.shelfrun.proofs.Bytes.{feeds-then, whole}

consumes-none : (a : Option (List ℕ)) → Consumes a a []
consumes-none None = tt
consumes-none (Some xs) = refl

appends-none : (a : Option (List ℕ)) → Appends a a []
appends-none None = tt
appends-none (Some xs) = sym (append-nil xs)

consumes-then : (a b c : Option (List ℕ)) (l m : List ℕ) → Consumes a b l → Consumes b c m → Consumes a c (l ++ m)
consumes-then None b c l m p q = tt
consumes-then (Some xs) None c l m p q = absurd p
consumes-then (Some xs) (Some ys) None l m p q = absurd q
consumes-then (Some xs) (Some ys) (Some zs) l m p q = p ∙ ap (λ (t : List ℕ). l ++ t) q ∙ sym (append_assoc l m zs)

appends-then : (a b c : Option (List ℕ)) (l m : List ℕ) → Appends a b l → Appends b c m → Appends a c (l ++ m)
appends-then None b c l m p q = tt
appends-then (Some xs) None c l m p q = absurd p
appends-then (Some xs) (Some ys) None l m p q = absurd q
appends-then (Some xs) (Some ys) (Some zs) l m p q = q ∙ ap (λ (t : List ℕ). t ++ m) p ∙ append_assoc xs l m

-- so many bytes were read that `room` are left of those that are counted
pub record PlayedWithin (unread unread' written written' : Option (List ℕ)) (kept : State → Type 0) (room : ℕ) : Type 0 where
  pub played : Played unread unread' written written' kept
  pub count : length played.reached.input + room ≡ 18446744073709551614

pub played-start : (u w : Option (List ℕ)) (y : Shelf) (blocks spare differences : List ℕ) → Keeps y (replicate 4 0) (replicate 4 0) (replicate 2 0) start
    → (blocks ≡ replicate 4 0) × (spare ≡ replicate 4 0) × (differences ≡ replicate 2 0)
    → PlayedWithin u u w w (Keeps y blocks spare differences) 18446744073709551614
unfolding output_of left
played-start u w y blocks spare differences k e = record {
  played = record {
    reached = record {
      input = [];
      text = [];
      fed = record { prints = λ x s. refl; leaves = λ x s. rw (s, e.0, e.1, e.2) k };
    };
    read = consumes-none u;
    wrote = appends-none w;
  };
  count = refl;
}

pub played-more : {u u' w w' : Option (List ℕ)} {a b : State → Type 0} {t : List ℕ} {room : ℕ} (u'' w'' : Option (List ℕ)) (input : List ℕ) (n : ℕ)
    → PlayedWithin u u' w w' a room → n ≤ length input → n ≤ room
    → Feeds a (take n input) t b → Consumes u' u'' (take n input) → Appends w' w'' t → PlayedWithin u u'' w w'' b (room - n)
played-more {u = u} {u' = u'} {w = w} {w' = w'} {t = t} u'' w'' input n p short less f c a =
    let r = p.played.reached in
    record {
      played = record {
        reached = record { input = r.input ++ take n input; text = r.text ++ t; fed = feeds-then r.fed f };
        read = consumes-then u u' u'' r.input (take n input) p.played.read c;
        wrote = appends-then w w' w'' r.text t p.played.wrote a;
      };
      count = omega (arith, length-append r.input (take n input), length-take n input, p.count);
    }

-- no byte was left to read
pub played-last : {u u' w w' : Option (List ℕ)} {a b : State → Type 0} {t : List ℕ} {room : ℕ} (u'' : Option (List ℕ)) (input : List ℕ) (n : ℕ) → n ≡ 0
    → PlayedWithin u u' w w' a room → Feeds a (take n input) t b → Consumes u' u'' (take n input) → Played u u'' w w' b
unfolding left
played-last {u = u} {u' = u'} {a = a} {b = b} {t = t} u'' input n e p f c =
    let r = p.played.reached in
    let f' : Feeds a [] t b = subst (λ (m : ℕ). Feeds a (take m input) t b) e f in
    let c' : Consumes u' u'' [] = subst (λ (m : ℕ). Consumes u' u'' (take m input)) e c in
    record {
      reached = record {
        input = r.input;
        text = r.text;
        fed = record { prints = r.fed.prints; leaves = λ x s. f'.leaves (left x r.input) (r.fed.leaves x s) };
      };
      read = subst (λ (l : List ℕ). Consumes u u'' l) (append-nil r.input) (consumes-then u u' u'' r.input [] p.played.read c');
      wrote = p.played.wrote;
    }

pub ended-now : (u u' : Option (List ℕ)) → IsAtEnd u' → Ended u u'
ended-now None u' h = tt
ended-now (Some xs) u' h = λ _. h

pub ended-full : {u u' w w' : Option (List ℕ)} {a : State → Type 0} {room : ℕ} → PlayedWithin u u' w w' a room → room ≤ 1024 → Ended u u'
ended-full {u = None} p h = tt
ended-full {u = Some xs} {u' = None} p h = absurd p.played.read
ended-full {u = Some xs} {u' = Some ys} p h =
    λ short. absurd (omega (arith, ap length p.played.read, length-append p.played.reached.input ys, p.count, short))

pub played-whole : {u u' w w' : Option (List ℕ)} {kept : State → Type 0} (w'' : Option (List ℕ)) (last : List ℕ) → Played u u' w w' kept
    → ((x : State) → kept x → last ≡ last_output x) → Ended u u' → Appends w' w'' last → Prints u w w''
played-whole {u = None} w'' last p e ended a = tt
played-whole {u = Some xs} {u' = None} w'' last p e ended a = absurd p.read
played-whole {u = Some xs} {u' = Some ys} {w = w} {w' = w'} w'' last p e ended a =
    λ short.
    let r = p.reached in
    let all : xs ≡ r.input = p.read ∙ ap (λ (t : List ℕ). r.input ++ t) (ended short) ∙ append-nil r.input in
    subst (λ (t : List ℕ). Appends w w'' t) (whole r last e ∙ ap shelfrun (sym all)) (appends-then w w' w'' r.text last p.wrote a)

-- what holds in any case
pub after-err : {T E P : Type 0} (r : Result T E) → P → OnErr r P
after-err (Ok x) p = tt
after-err (Err e) p = p
