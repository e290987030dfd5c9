-- What the history says of caches, main memory and bus.
use Rattle.std.proofs.Common.{◌≡◌, ◌≢◌, ℕ, ◌*◌, ◌<◌, inl, inr, false, List, [], ◌∷◌, ◌++◌, length, refl, ap, sym, ◌∙◌}
use Rattle.std.proofs.Common.{subst, get_or-set_same, get_or-set_other, length-set}
use Rattle.std.specs.Prelude.{Option, slice_set}
use Rattle.std.proofs.lemmas.Bool.{cases_eq, cases_lt}
use Rattle.image_file.specs.Value.{ImageValue, start_memory}
use Rattle.image_file.proofs.StartLaws.{length-start_memory}
use Rattle.access_log.specs.declared.Entry.{Entry}
use Rattle.access_log.specs.declared.Transaction.{Transaction}
use Rattle.access_log.specs.declared.Item.{Item}
use Rattle.access_log.specs.declared.Item.TheVariants.{Done, Bus}
use Rattle.access_log.proofs.ItemLaws.{after_items-append, length-after_items}
use Rattle.moesi_master.specs.declared.Phase.TheVariants as phase
use Rattle.moesi_slave.specs.declared.SlavePhase.{SlavePhase}
use Rattle.moesi_slave.specs.declared.SlavePhase.TheVariants as slave
use Rattle.moesi_slave.specs.Slave.{is_acted}
use Rattle.letters.specs.Caches.{Caches}
use Rattle.letters.specs.Fold.{no_letters}
use Rattle.cache_ram.specs.declared.line.Line.{Line}
use Rattle.coherence.specs.Bus.{fits_phase}
use Rattle.coherence.specs.Coherence.{AreTables}
use Rattle.coherence.specs.Split.{past_of, past_entry, past_bus}
use Rattle.letters.proofs.LetterLaws.{letters_after-append}
use Rattle.coherence.proofs.LetterLaws.{main_after-append, moesi-table, moesi-keeps}
use Rattle.coherence.proofs.HitLaws.{now-plain}
use Rattle.coherence.proofs.TransitionLaws.{fresh-is}
use Rattle.cache_bus.specs.Caches.{cache_at, letters_in, caches_of}
use Rattle.cache_bus.specs.View.{slave_in}
use Rattle.cache_bus.specs.Inside.{Inside, bus_of, past_in, IsFit, Holds}

pub tables : (sets : ℕ) → AreTables (caches_of sets)
tables sets = record { tables = λ cache. moesi-table; keeps = λ cache. moesi-keeps }

-- What a history with one item more says.
pub past-entry : (image : ImageValue) (caches : Caches) (items : List Item) (e : Entry)
    → past_of image caches (items ++ Done e ∷ []) ≡ past_entry (past_of image caches items) e
past-entry image caches items e =
    rw (
      letters_after-append caches no_letters items (Done e ∷ []),
      after_items-append (start_memory image) items (Done e ∷ []),
      main_after-append caches no_letters (start_memory image) (start_memory image) items (Done e ∷ []),
    ) refl

pub past-bus : (image : ImageValue) (caches : Caches) (items : List Item) (t : Transaction)
    → past_of image caches (items ++ Bus t ∷ []) ≡ past_bus caches (past_of image caches items) t
past-bus image caches items t =
    rw (
      letters_after-append caches no_letters items (Bus t ∷ []),
      after_items-append (start_memory image) items (Bus t ∷ []),
      main_after-append caches no_letters (start_memory image) (start_memory image) items (Bus t ∷ []),
    ) refl

-- One cache's part changes.
pub slave-here : (slaves : List SlavePhase) (cache : ℕ) (x : SlavePhase) → cache < length slaves
    → slave_in (slice_set slaves cache x) cache ≡ x
slave-here slaves cache x lt = get_or-set_same slaves cache x slave.Fresh lt

pub slave-else : (slaves : List SlavePhase) (cache : ℕ) (x : SlavePhase) (j : ℕ) → j ≢ cache
    → slave_in (slice_set slaves cache x) j ≡ slave_in slaves j
slave-else slaves cache x j ne = get_or-set_other slaves cache j x slave.Fresh ne

-- So many caches are there still.
pub fit-slaves : (image : ImageValue) (cores sets : ℕ) (caches : List (List (Option Line))) (slaves : List SlavePhase) (cache : ℕ)
    (x : SlavePhase)
    → IsFit image cores sets caches (length slaves) → IsFit image cores sets caches (length (slice_set slaves cache x))
fit-slaves image cores sets caches slaves cache x fit = subst (λ n. IsFit image cores sets caches n) (sym (simp length-set)) fit

-- One cache changes, and not its number of sets.
pub fit-caches : (image : ImageValue) (cores sets : ℕ) (old new : List (List (Option Line))) (slaves cache : ℕ)
    → IsFit image cores sets old slaves
    → length new ≡ length old → length (cache_at new cache) ≡ length (cache_at old cache)
    → ((other : ℕ) → other ≢ cache → cache_at new other ≡ cache_at old other) → IsFit image cores sets new slaves
fit-caches image cores sets old new slaves cache fit len here others = record {
  good = fit.good;
  some_cores = fit.some_cores;
  few = fit.few;
  some_sets = fit.some_sets;
  count = len ∙ fit.count;
  parts = fit.parts;
  sizes = λ j lt. elim (cases_eq j cache) as (λ _. length (cache_at new j) ≡ sets) [
    | inl e ↦ (let P : ℕ → Type 0 = λ z. length (cache_at new z) ≡ length (cache_at old z) in subst P (sym e) here) ∙ fit.sizes j lt
    | inr ne ↦ ap length (others j ne) ∙ fit.sizes j lt
  ];
}

module _ (s : Inside) (old : Holds s) where
  pub memory-size : length (past_in s).memory ≡ 2 * s.image.memory_lines
  memory-size = length-after_items (start_memory s.image) s.items ∙ length-start_memory s.image old.fit.good

  pub main-size : length s.main ≡ 2 * s.image.memory_lines
  main-size = old.split.coherent.size ∙ memory-size

  -- Where no transaction is on, no cache has a part in one.
  pub off-slaves : s.bus.phase ≡ phase.Off → (cache : ℕ) → slave_in s.slaves cache ≡ slave.Fresh
  off-slaves at cache = elim (cases_lt cache (2 * s.cores)) as (λ _. slave_in s.slaves cache ≡ slave.Fresh) [
    | inl lt ↦ elim (cases_eq cache s.bus.master) as (λ _. slave_in s.slaves cache ≡ slave.Fresh) [
      | inl e ↦ ap (λ z. slave_in s.slaves z) e ∙ old.split.master
      | inr ne ↦ fresh-is (slave_in s.slaves cache) (ap (λ x. fits_phase x (slave_in s.slaves cache)) (sym at)
          ∙ old.split.phases cache ne lt)
    ]
    | inr le ↦ old.split.beyond cache le
  ]

  -- The letters of a cache that hasn't acted are those of the history.
  pub plain-letter : (cache line : ℕ) → is_acted (slave_in s.slaves cache) ≡ false
      → letters_in s.caches cache line ≡ (past_in s).letters.letter cache line
  plain-letter cache line plain =
      old.split.letters_are cache line ∙ now-plain (caches_of s.sets) (past_in s).letters.letter (bus_of s) cache line plain

  pub master-letter : (line : ℕ) → letters_in s.caches s.bus.master line ≡ (past_in s).letters.letter s.bus.master line
  master-letter line = plain-letter s.bus.master line (ap is_acted old.split.master)
