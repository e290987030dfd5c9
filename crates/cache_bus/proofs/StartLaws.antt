-- Caches with their bus before the first call, at the end of a transaction that goes on, and as they are given back.
use Rattle.std.proofs.Common.{◌≡◌, ℕ, ◌*◌, ◌/◌, ◌%◌, ◌^◌, ◌<◌, ◌≤◌, true, false, List, [], ◌∷◌}
use Rattle.std.proofs.Common.{◌++◌, length, replicate, refl, ap, sym, ◌∙◌, arith, subst}
use Rattle.std.specs.Prelude.{Option, slice_index}
use Rattle.std.proofs.lemmas.Grind.{common_steps}
use Rattle.image_file.specs.Value.{ImageValue, IsGood, start_memory, code_lines}
use Rattle.image_file.proofs.WordLaws.{code_at}
use Rattle.access_log.specs.declared.Letter.TheVariants.{I}
use Rattle.access_log.specs.declared.Item.{Item}
use Rattle.access_log.specs.declared.Item.TheVariants.{Bus}
use Rattle.access_log.specs.Items.{after_items}
use Rattle.moesi_master.specs.declared.Phase.TheVariants as phase
use Rattle.moesi_master.specs.Moesi.{is_held, is_sole, is_dirty}
use Rattle.moesi_master.specs.Phases.{is_on}
use Rattle.moesi_slave.specs.declared.SlavePhase.{SlavePhase}
use Rattle.moesi_slave.specs.declared.SlavePhase.TheVariants as slave
use Rattle.moesi_slave.specs.Slave.{is_acted}
use Rattle.letters.specs.Fold.{no_letters, FollowsFrom}
use Rattle.cache_ram.specs.declared.line.Line.{Line}
use Rattle.coherence.specs.Coherence.{IsCoherent}
use Rattle.coherence.specs.Split.{IsSplit}
use Rattle.cache_bus.specs.declared.bus.Bus as bus_type
use Rattle.cache_bus.specs.Caches.{letters_in, caches_of, AreEmpty}
use Rattle.cache_bus.specs.View.{CacheBusView, slave_in}
use Rattle.cache_bus.specs.Calls.{StaysOn, Ends}
use Rattle.cache_bus.specs.Inside.{Inside, past_in, state_of, Holds}
use Rattle.cache_bus.proofs.InsideLaws.{main-size, off-slaves, plain-letter}

-- No cache has a part in a transaction.
pub all-fresh : (n cache : ℕ) → slave_in (replicate n slave.Fresh) cache ≡ slave.Fresh
all-fresh n cache = grind (arith, common_steps)

module _ (image : ImageValue) (cores sets : ℕ) (caches : List (List (Option Line))) (main : List ℕ) (bus : bus_type.Bus)
    (slaves : List SlavePhase)
    (good : IsGood image) (some_cores : 1 ≤ cores) (few : cores ≤ 8) (some_sets : 0 < sets) (empty : AreEmpty (2 * cores) sets caches)
    (main_is : main ≡ start_memory image) (off : bus.phase ≡ phase.Off) (fresh : (cache : ℕ) → slave_in slaves cache ≡ slave.Fresh)
    (parts : length slaves ≡ 2 * cores) where
  abbrev start : Inside
  start = record { image = image; cores = cores; sets = sets; caches = caches; main = main; bus = bus; slaves = slaves; items = [] }

  none-held : (cache line : ℕ) → is_held (letters_in caches cache line) ≡ true → ⊥
  none-held cache line h = let q : false ≡ true = sym (ap is_held (empty.letters cache line)) ∙ h in cc

  start-coherent : IsCoherent (2 * cores) (λ cache line. I) (start_memory image) main
  start-coherent = record {
    within = λ cache line le. refl;
    inside = λ cache line h. cc;
    alone = λ cache other line h ne. refl;
    owner = λ cache other line h g. cc;
    size = ap length main_is;
    clean = λ word none. ap (λ z. slice_index z word) main_is;
  }

  start-split : IsSplit image (caches_of sets) cores (past_in start) (state_of start)
  start-split = record {
    letters_are = λ cache line. empty.letters cache line ∙ sym (rw (fresh cache) refl);
    filled_are = λ cache set. empty.filled cache set ∙ sym (rw (fresh cache) refl);
    main_is = main_is ∙ sym (rw off refl);
    coherent = start-coherent;
    agrees = λ cache i h. absurd (none-held cache (i / 2) h);
    code = λ i lt. code_at image i lt;
    master = fresh bus.master;
    beyond = λ cache le. fresh cache;
    empty = λ cache set le. refl;
    phases = λ cache ne lt. rw (off, fresh cache) refl;
    on = λ h. (let q : false ≡ true = sym (ap is_on off) ∙ h in cc);
  }

  start-holds : Holds start
  start-holds = record {
    fit = record {
      good = good;
      some_cores = some_cores;
      few = few;
      some_sets = some_sets;
      count = empty.len;
      parts = parts;
      sizes = empty.sizes;
    };
    room = λ h. (let q : false ≡ true = sym (ap is_on off) ∙ h in cc);
    going = λ h. (let q : false ≡ true = sym (ap is_on off) ∙ h in cc);
    split = start-split;
  }

  pub started-holds : (items : List Item) → items ≡ [] → Holds (record start { items = items })
  started-holds items e =
      let P : List Item → Type 0 = λ z. Holds (record start { items = z }) in
      subst P (sym e) start-holds

-- It ends where it came to.
pub ends-after : (old now new : CacheBusView) → StaysOn old now → Ends now new → Ends old new
ends-after old now new a b =
    let follows : FollowsFrom (caches_of now.sets) now.cores (code_lines now.image) no_letters now.items
    → FollowsFrom (caches_of now.sets) now.cores (code_lines now.image) no_letters new.items = b.follows in
    record {
      kept = record { image = b.kept.image ∙ a.kept.image; cores = b.kept.cores ∙ a.kept.cores; sets = b.kept.sets ∙ a.kept.sets };
      items = (
        b.items.0,
        (
          b.items.1.0 ∙ ap (λ items. items ++ Bus b.items.0 ∷ []) a.items,
          record {
            master = b.items.1.1.master ∙ a.master;
            line = b.items.1.1.line ∙ a.line;
            im = b.items.1.1.im ∙ a.im;
            victim = b.items.1.1.victim ∙ a.victim;
          },
        ),
      );
      spare = b.spare ∙ a.spare;
      off = b.off;
      follows = rw (a.kept.sets, a.kept.cores, a.kept.image, a.items) at follows;
      hit = rw (← a.master, ← a.line, ← a.im) b.hit;
      fresh = b.fresh;
    }

pub is-on : (s : CacheBusView) → is_on s.bus.phase ≡ true → StaysOn s s
is-on s on = record {
  kept = record { image = refl; cores = refl; sets = refl };
  items = refl;
  spare = refl;
  on = on;
  master = refl;
  line = refl;
  im = refl;
  victim = refl;
  abandoned = refl;
}

module _ (s : Inside) (old : Holds s) where
  -- Memory has so many words.
  pub main-small : length s.main < 2 ^ 31
  main-small = let size = main-size s old in let lines = old.fit.good.lines in omega (arith, size, lines)

  pub main-even : length s.main % 2 ≡ 0
  main-even = let size = main-size s old in omega (arith, size)

  -- Where no transaction is on, caches and main memory agree with what the entries left.
  pub off-coherent : s.bus.phase ≡ phase.Off
      → IsCoherent (length s.caches) (letters_in s.caches) (after_items (start_memory s.image) s.items) s.main
  off-coherent at =
      let was = old.split.coherent in
      let same : (cache line : ℕ) → letters_in s.caches cache line ≡ (past_in s).letters.letter cache line =
      (λ cache line. plain-letter s old cache line (ap is_acted (off-slaves s old at cache))) in
      record {
        within = λ cache line le. same cache line ∙ was.within cache line (let c = old.fit.count in omega (arith, c, le));
        inside = λ cache line h. was.inside cache line (ap is_held (sym (same cache line)) ∙ h);
        alone = λ cache other line h ne. same other line ∙ was.alone cache other line (ap is_sole (sym (same cache line)) ∙ h) ne;
        owner = λ cache other line h g. was.owner cache other line (ap is_dirty (sym (same cache line)) ∙ h)
            (ap is_dirty (sym (same other line)) ∙ g);
        size = was.size;
        clean = λ word none. was.clean word (λ cache. ap is_dirty (sym (same cache (word / 2))) ∙ none cache);
      }
