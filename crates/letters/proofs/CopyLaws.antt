-- Histories that follow the letters keep copies consistent.
use Rattle.std.proofs.Common.{◌≡◌, ◌≢◌, ℕ, zero, suc, ◌*◌, ◌<◌, ◌≤◌, ◌⊎◌, inl, inr, Bool, true, false, List, [], ◌∷◌}
use Rattle.std.proofs.Common.{refl, ap, sym, ◌∙◌, arith, subst}
use Rattle.std.specs.Prelude.{◌==◌, ◌&&◌, not, if◌then◌else◌, is_some, Some, None}
use Rattle.std.proofs.lemmas.Bool.{cases_eq, cases_lt, cases_Bool, both_ways, eq-eqb, ne_eqb, and_parts, not-true}
use Rattle.std.proofs.Math.Path.{fun_ext}
use Rattle.std.specs.List.{AllByRecursion}
use Rattle.access_log.specs.declared.Letter.{Letter}
use Rattle.access_log.specs.declared.Letter.TheVariants.{M, O, E, S, I}
use Rattle.access_log.specs.declared.Entry.{Entry}
use Rattle.access_log.specs.declared.Transaction.{Transaction}
use Rattle.access_log.specs.declared.Item.{Item}
use Rattle.access_log.specs.declared.Item.TheVariants.{Done, Bus}
use Rattle.moesi_master.specs.Moesi.{is_held, is_sole, is_dirty, is_hit}
use Rattle.letters.specs.Caches.{Protocol, Caches, moesi, all_with}
use Rattle.letters.specs.Fold.{LettersValue, no_letters, cache_of, line_of}
use Rattle.letters.specs.Fold.{letter_after_entry, after_entry, letter_after_transaction}
use Rattle.letters.specs.Fold.{after_transaction, letters_after, supplier_of, IsAllowed, FollowsFrom}
use Rattle.letters.proofs.LetterLaws.{held-not, holders-none, bus-master, bus-slave, bus-gone, bus-was, entry-else}
use Rattle.letters.specs.Copies.{AreConsistent, KeepsCopies, StoresByKind, MoesiKeepsCopiesConsistent, SuppliersAreDirty, DirtyCachesSupply}

-- Who supplies.
pub supplier-dirty : SuppliersAreDirty
supplier-dirty letter master line zero cache e = cc
supplier-dirty letter master line (suc n) cache e =
    by (cases_Bool (not (n == master) && is_dirty (letter n line))) (supplier-dirty letter master line n cache)
  where
    by : ((not (n == master) && is_dirty (letter n line)) ≡ true) ⊎ ((not (n == master) && is_dirty (letter n line)) ≡ false)
        → (supplier_of letter master line n ≡ Some cache → (cache < n) × (cache ≢ master) × (is_dirty (letter cache line) ≡ true))
        → (cache < suc n) × (cache ≢ master) × (is_dirty (letter cache line) ≡ true)
    by (inl is_so) below =
        let parts = and_parts (not (n == master)) (is_dirty (letter n line)) is_so in
        let some : Some n ≡ Some cache = rw is_so at e in
        let same : n ≡ cache = cc in
        let other : n ≢ master = λ is. both_ways (n == master) (not-true (n == master) parts.0) (eq-eqb n master is) in
        subst (λ k. (k < suc n) × (k ≢ master) × (is_dirty (letter k line) ≡ true)) same (omega arith, other, parts.1)
    by (inr isnt) below =
        let found = below (rw isnt at e) in
        let less : cache < suc n = omega (arith, found.0) in
        (less, found.1, found.2)

pub supplier-none : DirtyCachesSupply
supplier-none letter master line zero e cache below other = absurd (omega arith)
supplier-none letter master line (suc n) e cache below other =
    by (cases_Bool (not (n == master) && is_dirty (letter n line))) (λ rest less. supplier-none letter master line n rest cache less other)
  where
    by : ((not (n == master) && is_dirty (letter n line)) ≡ true) ⊎ ((not (n == master) && is_dirty (letter n line)) ≡ false)
        → (supplier_of letter master line n ≡ None → cache < n → is_dirty (letter cache line) ≡ false)
        → is_dirty (letter cache line) ≡ false
    by (inl is_so) more = (let some : Some n ≡ None = rw is_so at e in cc)
    by (inr isnt) more = elim (cases_eq cache n) as (λ _. is_dirty (letter cache line) ≡ false) [
      | inl same ↦
          (let apart : (n == master) ≡ false = ne_eqb n master (λ is. other (same ∙ is)) in
          let clean : is_dirty (letter n line) ≡ false = rw apart at isnt in
          ap (λ k. is_dirty (letter k line)) same ∙ clean)
      | inr differs ↦ more (rw isnt at e) (omega arith)
    ]

act-invalid : (protocol : Protocol) → KeepsCopies protocol → (im : Bool) → protocol.after_act I im ≡ I
act-invalid protocol keeps im = held-not (protocol.after_act I im) (by (is_held (protocol.after_act I im)) refl)
  where
    by : (b : Bool) → is_held (protocol.after_act I im) ≡ b → b ≡ false
    by true e = absurd (both_ways (is_held I) refl (keeps.was_held I im e))
    by false e = refl

module _ (caches : Caches) (keeps : (cache : ℕ) → KeepsCopies (caches.protocol cache)) (cores code_lines : ℕ) where
  module _ (letters : LettersValue) (bus : Transaction) (old : AreConsistent (2 * cores) letters.letter)
      (allowed : IsAllowed caches cores code_lines letters bus) where
    abbrev after : ℕ → ℕ → Letter
    after = letter_after_transaction caches letters bus

    gone : (cache : ℕ) → bus.im ≡ true → (caches.protocol cache).after_act (letters.letter cache bus.line) bus.im ≡ I
    gone cache e =
        ap (λ im. (caches.protocol cache).after_act (letters.letter cache bus.line) im) e
        ∙ (keeps cache).gone (letters.letter cache bus.line)

    none : bus.ch ≡ 0 → (cache : ℕ) → cache ≢ bus.master → letters.letter cache bus.line ≡ I
    none e cache other = elim (cases_lt cache (2 * cores)) as (λ _. letters.letter cache bus.line ≡ I) [
      | inl less ↦ holders-none letters.letter bus.master bus.line (2 * cores) cache (sym allowed.held_by ∙ e) less other
      | inr more ↦ old.within cache bus.line more
    ]

    -- Where the master has the only copy, no other cache keeps one.
    alone-slave : (cache : ℕ) → is_sole bus.letter ≡ true → cache ≢ bus.master
        → (caches.protocol cache).after_act (letters.letter cache bus.line) bus.im ≡ I
    alone-slave cache sole other = by bus.im refl
      where
        by : (im : Bool) → bus.im ≡ im → (caches.protocol cache).after_act (letters.letter cache bus.line) bus.im ≡ I
        by true e = gone cache e
        by false e =
            let reads : is_sole ((caches.protocol bus.master).after_finish false bus.ch) ≡ true =
            ap (λ im. is_sole ((caches.protocol bus.master).after_finish im bus.ch)) (sym e) ∙ (ap is_sole (sym allowed.becomes) ∙ sole) in
            ap (λ letter. (caches.protocol cache).after_act letter bus.im)
            (none ((keeps bus.master).reads_sole bus.ch reads) cache other)
            ∙ act-invalid (caches.protocol cache) (keeps cache) bus.im

    -- Nor where it has a dirty one.
    dirty-slave : (cache : ℕ) → is_dirty bus.letter ≡ true → (caches.protocol cache).after_act (letters.letter cache bus.line) bus.im ≡ I
    dirty-slave cache dirty = by bus.im refl
      where
        by : (im : Bool) → bus.im ≡ im → (caches.protocol cache).after_act (letters.letter cache bus.line) bus.im ≡ I
        by true e = gone cache e
        by false e = absurd (both_ways (is_dirty ((caches.protocol bus.master).after_finish false bus.ch))
            ((keeps bus.master).reads_clean bus.ch)
            (ap (λ im. is_dirty ((caches.protocol bus.master).after_finish im bus.ch)) (sym e)
            ∙ (ap is_dirty (sym allowed.becomes) ∙ dirty)))

    alone-line : (cache other : ℕ) → is_sole (after cache bus.line) ≡ true → other ≢ cache → after other bus.line ≡ I
    alone-line cache other sole differs = elim (cases_eq cache bus.master) as (λ _. after other bus.line ≡ I) [
      | inl mine ↦
          (let apart : other ≢ bus.master = λ e. differs (e ∙ sym mine) in
          let letter : is_sole bus.letter ≡ true = ap is_sole (sym (bus-master caches letters bus))
          ∙ (ap (λ k. is_sole (after k bus.line)) (sym mine) ∙ sole) in
          bus-slave caches letters bus other apart ∙ alone-slave other letter apart)
      | inr slave ↦ absurd (both_ways (is_sole (after cache bus.line))
          (ap is_sole (bus-slave caches letters bus cache slave) ∙ (keeps cache).not_sole (letters.letter cache bus.line) bus.im) sole)
    ]

    was-dirty : (cache : ℕ) → cache ≢ bus.master → is_dirty (after cache bus.line) ≡ true → is_dirty (letters.letter cache bus.line) ≡ true
    was-dirty cache slave dirty = (keeps cache).was_dirty (letters.letter cache bus.line) bus.im
        (ap is_dirty (sym (bus-slave caches letters bus cache slave)) ∙ dirty)

    no-other : (cache other : ℕ) → cache ≡ bus.master → other ≢ bus.master → is_dirty (after cache bus.line) ≡ true
        → is_dirty (after other bus.line) ≡ true → ⊥
    no-other cache other mine slave a b =
        let letter : is_dirty bus.letter ≡ true = ap is_dirty (sym (bus-master caches letters bus))
        ∙ (ap (λ k. is_dirty (after k bus.line)) (sym mine) ∙ a) in
        both_ways (is_dirty (after other bus.line)) (ap is_dirty (bus-slave caches letters bus other slave ∙ dirty-slave other letter)) b

    owner-line : (cache other : ℕ) → is_dirty (after cache bus.line) ≡ true → is_dirty (after other bus.line) ≡ true → other ≡ cache
    owner-line cache other a b = by (cases_eq cache bus.master) (cases_eq other bus.master)
      where
        by : (cache ≡ bus.master) ⊎ (cache ≢ bus.master) → (other ≡ bus.master) ⊎ (other ≢ bus.master) → other ≡ cache
        by (inl x) (inl y) = y ∙ sym x
        by (inl x) (inr y) = absurd (no-other cache other x y a b)
        by (inr x) (inl y) = absurd (no-other other cache y x b a)
        by (inr x) (inr y) = old.owner cache other bus.line (was-dirty cache x a) (was-dirty other y b)

    within-line : (cache : ℕ) → 2 * cores ≤ cache → after cache bus.line ≡ I
    within-line cache beyond =
        let slave : cache ≢ bus.master = λ e. omega (arith, e, beyond, allowed.master) in
        bus-slave caches letters bus cache slave
        ∙ (ap (λ letter. (caches.protocol cache).after_act letter bus.im) (old.within cache bus.line beyond)
        ∙ act-invalid (caches.protocol cache) (keeps cache) bus.im)

    pub transaction-consistent : AreConsistent (2 * cores) (after_transaction caches letters bus).letter
    transaction-consistent = record {
      within = λ cache line beyond. elim (cases_eq line bus.line) as (λ _. after cache line ≡ I) [
        | inl e ↦ ap (after cache) e ∙ within-line cache beyond
        | inr o ↦ bus-gone caches letters bus cache line o (old.within cache line beyond)
      ];
      alone = λ cache other line sole differs. elim (cases_eq line bus.line) as (λ _. after other line ≡ I) [
        | inl e ↦ ap (after other) e ∙ alone-line cache other (ap (λ k. is_sole (after cache k)) (sym e) ∙ sole) differs
        | inr o ↦ bus-gone caches letters bus other line o
            (old.alone cache other line (bus-was caches letters bus is_sole refl cache line o sole) differs)
      ];
      owner = λ cache other line a b. elim (cases_eq line bus.line) as (λ _. other ≡ cache) [
        | inl e ↦ owner-line cache other (ap (λ k. is_dirty (after cache k)) (sym e) ∙ a) (ap (λ k. is_dirty (after other k)) (sym e) ∙ b)
        | inr o ↦ old.owner cache other line (bus-was caches letters bus is_dirty refl cache line o a)
            (bus-was caches letters bus is_dirty refl other line o b)
      ];
    }

-- The letters after an entry.
module _ (letters : LettersValue) (entry : Entry) where
  entry-quiet : is_some entry.new ≡ false → (cache line : ℕ) → letter_after_entry letters entry cache line ≡ letters.letter cache line
  entry-quiet none cache line = rw none (by ((cache == cache_of entry) && (line == line_of entry)))
    where
      by : (b : Bool) → (if b then letters.letter cache line else letters.letter cache line) ≡ letters.letter cache line
      by true = refl
      by false = refl

  module _ (count : ℕ) (old : AreConsistent count letters.letter) where
    quiet-consistent : is_some entry.new ≡ false → AreConsistent count (after_entry letters entry).letter
    quiet-consistent none = subst (AreConsistent count) (fun_ext (λ cache. fun_ext (λ line. sym (entry-quiet none cache line)))) old

    module _ (sole : is_sole (letters.letter (cache_of entry) (line_of entry)) ≡ true) where
      abbrev after_store : ℕ → ℕ → Letter
      after_store = letter_after_entry letters entry

      inside : cache_of entry < count
      inside = elim (cases_lt (cache_of entry) count) as (λ _. cache_of entry < count) [
        | inl less ↦ less
        | inr more ↦ absurd (both_ways (is_sole (letters.letter (cache_of entry) (line_of entry)))
            (ap is_sole (old.within (cache_of entry) (line_of entry) more)) sole)
      ]

      -- No other cache holds its line.
      no_copy : (cache : ℕ) → cache ≢ cache_of entry → after_store cache (line_of entry) ≡ I
      no_copy cache other =
          entry-else letters entry cache (line_of entry) (λ same here. other same) ∙ old.alone (cache_of entry) cache (line_of entry) sole other

      only : (test : Letter → Bool) → test I ≡ false → (cache : ℕ)
          → test (after_store cache (line_of entry)) ≡ true → cache ≡ cache_of entry
      only test never cache h = elim (cases_eq cache (cache_of entry)) as (λ _. cache ≡ cache_of entry) [
        | inl same ↦ same
        | inr other ↦ absurd (both_ways (test (after_store cache (line_of entry))) (ap test (no_copy cache other) ∙ never) h)
      ]

      store-consistent : AreConsistent count (after_entry letters entry).letter
      store-consistent = record {
        within = λ cache line beyond.
            entry-else letters entry cache line (λ same here. omega (arith, same, beyond, inside)) ∙ old.within cache line beyond;
        alone = λ cache other line is differs. elim (cases_eq line (line_of entry)) as (λ _. after_store other line ≡ I) [
          | inl e ↦
              (let mine : cache ≡ cache_of entry = only is_sole refl cache (ap (λ k. is_sole (after_store cache k)) (sym e) ∙ is) in
              ap (after_store other) e ∙ no_copy other (λ same. differs (same ∙ sym mine)))
          | inr o ↦ entry-else letters entry other line (λ same here. o here)
              ∙ old.alone cache other line (ap is_sole (sym (entry-else letters entry cache line (λ same here. o here))) ∙ is) differs
        ];
        owner = λ cache other line a b. elim (cases_eq line (line_of entry)) as (λ _. other ≡ cache) [
          | inl e ↦ only is_dirty refl other (ap (λ k. is_dirty (after_store other k)) (sym e) ∙ b)
              ∙ sym (only is_dirty refl cache (ap (λ k. is_dirty (after_store cache k)) (sym e) ∙ a))
          | inr o ↦ old.owner cache other line (ap is_dirty (sym (entry-else letters entry cache line (λ same here. o here))) ∙ a)
              (ap is_dirty (sym (entry-else letters entry other line (λ same here. o here))) ∙ b)
        ];
      }

pub entry-consistent : (letters : LettersValue) (entry : Entry) (count : ℕ) → AreConsistent count letters.letter
    → StoresByKind (Done entry) → is_hit (letters.letter (cache_of entry) (line_of entry)) entry.kind ≡ true
    → AreConsistent count (after_entry letters entry).letter
entry-consistent letters entry count old stored hit = by (cases_Bool (is_some entry.new))
  where
    by : (is_some entry.new ≡ true) ⊎ (is_some entry.new ≡ false) → AreConsistent count (after_entry letters entry).letter
    by (inl some) = store-consistent letters entry count old (rw (stored some) at hit)
    by (inr none) = quiet-consistent letters entry count old none

-- Histories.
pub history-consistent : (caches : Caches) → ((cache : ℕ) → KeepsCopies (caches.protocol cache)) → (cores code_lines : ℕ)
    → (letters : LettersValue) (items : List Item) → AllByRecursion StoresByKind items → AreConsistent (2 * cores) letters.letter
    → FollowsFrom caches cores code_lines letters items → AreConsistent (2 * cores) (letters_after caches letters items).letter
history-consistent caches keeps cores code_lines letters [] stored old h = old
history-consistent caches keeps cores code_lines letters (Done entry ∷ items) stored old h =
    history-consistent caches keeps cores code_lines (after_entry letters entry) items stored.1
    (entry-consistent letters entry (2 * cores) old stored.0 h.0) h.1
history-consistent caches keeps cores code_lines letters (Bus bus ∷ items) stored old h =
    history-consistent caches keeps cores code_lines (after_transaction caches letters bus) items stored.1
    (transaction-consistent caches keeps cores code_lines letters bus old h.0) h.1

pub moesi-keeps : KeepsCopies moesi
moesi-keeps = record {
  gone = λ letter. refl;
  not_sole = not_sole;
  was_held = was_held;
  was_dirty = was_dirty;
  reads_clean = λ n. reads_clean (n == 0);
  reads_sole = reads_sole;
}
  where
    not_sole : (x : Letter) (im : Bool) → is_sole (moesi.after_act x im) ≡ false
    not_sole x true = refl
    not_sole M false = refl
    not_sole O false = refl
    not_sole E false = refl
    not_sole S false = refl
    not_sole I false = refl

    was_held : (x : Letter) (im : Bool) → is_held (moesi.after_act x im) ≡ true → is_held x ≡ true
    was_held x true h = cc
    was_held M false h = refl
    was_held O false h = refl
    was_held E false h = refl
    was_held S false h = refl
    was_held I false h = cc

    was_dirty : (x : Letter) (im : Bool) → is_dirty (moesi.after_act x im) ≡ true → is_dirty x ≡ true
    was_dirty x true h = cc
    was_dirty M false h = refl
    was_dirty O false h = refl
    was_dirty E false h = cc
    was_dirty S false h = cc
    was_dirty I false h = cc

    reads_clean : (b : Bool) → is_dirty (if b then E else S) ≡ false
    reads_clean true = refl
    reads_clean false = refl

    reads_sole : (n : ℕ) → is_sole (if n == 0 then E else S) ≡ true → n ≡ 0
    reads_sole n h = elim (cases_eq n 0) as (λ _. n ≡ 0) [
      | inl e ↦ e
      | inr o ↦ absurd (both_ways (is_sole (if n == 0 then E else S)) (ap (λ b. is_sole (if b then E else S)) (ne_eqb n 0 o)) h)
    ]

pub moesi-consistent : MoesiKeepsCopiesConsistent
moesi-consistent sets ways cores code_lines items stored h =
    history-consistent (all_with moesi sets ways) (λ cache. moesi-keeps) cores code_lines no_letters items stored start h
  where
    start : AreConsistent (2 * cores) no_letters.letter
    start = record {
      within = λ cache line beyond. refl;
      alone = λ cache other line sole differs. refl;
      owner = λ cache other line a b. absurd (both_ways (is_dirty I) refl a);
    }
