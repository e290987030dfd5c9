-- Facts of single letters, and of folds over an append.
use Rattle.std.proofs.Common.{◌≡◌, ℕ, ◌⊎◌, inl, inr, Bool, true, false, List, [], ◌∷◌}
use Rattle.std.proofs.Common.{◌++◌, refl, ap}
use Rattle.std.specs.Prelude.{◌==◌, if◌then◌else◌}
use Rattle.std.proofs.lemmas.Bool.{cases_eq, both_ways, ne_eqb}
use Rattle.access_log.specs.declared.Letter.{Letter}
use Rattle.access_log.specs.declared.Letter.TheVariants.{M, O, E, S, I}
use Rattle.access_log.specs.declared.Item.{Item}
use Rattle.access_log.specs.declared.Item.TheVariants.{Done, Bus}
use Rattle.access_log.specs.Memory.{after}
use Rattle.access_log.specs.Items.{after_items}
use Rattle.moesi_master.specs.Moesi.{is_held, is_sole, is_dirty, suffices}
use Rattle.moesi_slave.specs.Slave.{after_act}
use Rattle.letters.specs.Caches.{Protocol, Caches, moesi}
use Rattle.letters.specs.Fold.{LettersValue, letters_after, after_entry, after_transaction}
use Rattle.letters.proofs.LetterLaws.{held-not}
use Rattle.coherence.specs.Coherence.{IsTable, KeepsDirty, flushed, main_after}

pub sole-held : (x : Letter) → is_sole x ≡ true → is_held x ≡ true
sole-held M h = refl
sole-held O h = cc
sole-held E h = refl
sole-held S h = cc
sole-held I h = cc

pub dirty-held : (x : Letter) → is_dirty x ≡ true → is_held x ≡ true
dirty-held M h = refl
dirty-held O h = refl
dirty-held E h = cc
dirty-held S h = cc
dirty-held I h = cc

pub invalid-sole : (x : Letter) → x ≡ I → is_sole x ≡ false
invalid-sole x e = ap is_sole e

pub invalid-dirty : (x : Letter) → x ≡ I → is_dirty x ≡ false
invalid-dirty x e = ap is_dirty e

pub suffices-held : (x : Letter) (im : Bool) → suffices x im ≡ true → is_held x ≡ true
suffices-held x true h = sole-held x h
suffices-held x false h = h

-- The MOESI tables keep copies right.
moesi-gone : (x : Letter) → after_act x true ≡ I
moesi-gone x = refl

pub moesi-table : IsTable moesi
moesi-table = record {
  gone = moesi-gone;
  not_sole = not_sole;
  was_held = was_held;
  was_dirty = was_dirty;
  stores = λ n. refl;
  reads = λ n. reads (n == 0);
  reads_clean = λ n. reads_clean (n == 0);
  reads_sole = λ n h. reads_sole n h;
}
  where
    not_sole : (x : Letter) (im : Bool) → is_sole (after_act x im) ≡ false
    not_sole x true = refl
    not_sole M false = refl
    not_sole O false = refl
    not_sole E false = refl
    not_sole S false = refl
    not_sole I false = refl

    was_held : (x : Letter) (im : Bool) → is_held (after_act x im) ≡ true → is_held x ≡ true
    was_held x true h = cc
    was_held M false h = refl
    was_held O false h = refl
    was_held E false h = refl
    was_held S false h = refl
    was_held I false h = cc

    was_dirty : (x : Letter) (im : Bool) → is_dirty (after_act x im) ≡ true → is_dirty x ≡ true
    was_dirty x true h = cc
    was_dirty M false h = refl
    was_dirty O false h = refl
    was_dirty E false h = cc
    was_dirty S false h = cc
    was_dirty I false h = cc

    reads : (b : Bool) → is_held (if b then E else S) ≡ true
    reads true = refl
    reads false = refl

    reads_clean : (b : Bool) → is_dirty (if b then E else S) ≡ false
    reads_clean true = refl
    reads_clean false = refl

    reads_sole : (n : ℕ) → is_sole (if n == 0 then E else S) ≡ true → n ≡ 0
    reads_sole n h = elim (cases_eq n 0) [
      | inl e ↦ e
      | inr ne ↦ absurd (both_ways (is_sole (if n == 0 then E else S)) (ap (λ b. is_sole (if b then E else S)) (ne_eqb n 0 ne)) h)
    ]

pub moesi-keeps : KeepsDirty moesi
moesi-keeps M h = refl
moesi-keeps O h = refl
moesi-keeps E h = cc
moesi-keeps S h = cc
moesi-keeps I h = cc

-- What tables say of a slave that has acted.
module _ (p : Protocol) (table : IsTable p) where
  pub act-invalid : (im : Bool) → p.after_act I im ≡ I
  act-invalid im = held-not (p.after_act I im) (by (is_held (p.after_act I im)) refl)
    where
      by : (b : Bool) → is_held (p.after_act I im) ≡ b → b ≡ false
      by true e = (let h = table.was_held I im e in cc)
      by false e = refl

  -- A hit by its letter after is a load, and one by its letter before.
  pub act-suffices : (x : Letter) (im sole : Bool) → suffices (p.after_act x im) sole ≡ true → (sole ≡ false) × (is_held x ≡ true)
  act-suffices x im true h = absurd (both_ways (is_sole (p.after_act x im)) (table.not_sole x im) h)
  act-suffices x im false h = (refl, table.was_held x im h)

  pub finish-suffices : (im : Bool) (n : ℕ) → suffices (p.after_finish im n) im ≡ true
  finish-suffices true n = ap is_sole (table.stores n)
  finish-suffices false n = table.reads n

  pub finish-sole : (im : Bool) (n : ℕ) → is_sole (p.after_finish im n) ≡ true → (im ≡ true) ⊎ (n ≡ 0)
  finish-sole true n h = inl refl
  finish-sole false n h = inr (table.reads_sole n h)

  pub finish-dirty : (im : Bool) (n : ℕ) → is_dirty (p.after_finish im n) ≡ true → im ≡ true
  finish-dirty true n h = refl
  finish-dirty false n h = absurd (both_ways (is_dirty (p.after_finish false n)) (table.reads_clean n) h)

-- Main memory over an append.
pub main_after-append : (caches : Caches) (letters : LettersValue) (memory main : List ℕ) (xs ys : List Item) →
    main_after caches letters memory main (xs ++ ys)
    ≡ main_after caches (letters_after caches letters xs) (after_items memory xs) (main_after caches letters memory main xs) ys
main_after-append caches letters memory main [] ys = refl
main_after-append caches letters memory main (Done e ∷ xs) ys = main_after-append caches (after_entry letters e) (after memory e) main xs ys
main_after-append caches letters memory main (Bus t ∷ xs) ys =
    main_after-append caches (after_transaction caches letters t) memory (flushed letters.letter memory main t.master t.victim) xs ys
