-- Begin and end of a transaction keep what the history says.
use Rattle.std.proofs.Common.{◌≡◌, ◌≢◌, ℕ, ◌+◌, ◌*◌, ◌/◌, ◌%◌, ◌<◌, ◌≤◌, ◌⊎◌, inl, inr, Bool, true, false}
use Rattle.std.proofs.Common.{List, [], ◌∷◌, ◌++◌, length, refl, ap, sym, ◌∙◌, arith, subst}
use Rattle.std.specs.Prelude.{Option, Some, None, not, ◌==◌, if◌then◌else◌}
use Rattle.std.proofs.lemmas.Bool.{cases_eq, eq-eqb, ne_eqb}
use Rattle.std.proofs.lemmas.Bool.Decides.{nat_tests}
use Rattle.mips_isa.specs.Kinds.{stores}
use Rattle.image_file.specs.Value.{ImageValue, IsGood, memory_bytes, code_lines}
use Rattle.image_file.proofs.NumberLaws.{apart_within}
use Rattle.access_log.specs.declared.Letter.{Letter}
use Rattle.access_log.specs.declared.Item.TheVariants.{Bus}
use Rattle.access_log.specs.declared.request.Request.{Request}
use Rattle.moesi_master.specs.declared.Phase.TheVariants as phase
use Rattle.moesi_master.specs.Moesi.{is_held, is_dirty, suffices, after_finish}
use Rattle.moesi_master.specs.Phases.{is_on, first_phase}
use Rattle.moesi_slave.specs.declared.SlavePhase.{SlavePhase}
use Rattle.moesi_slave.specs.declared.SlavePhase.TheVariants as slave
use Rattle.moesi_slave.specs.Slave.{is_fresh, is_acted}
use Rattle.letters.specs.Caches.{moesi}
use Rattle.letters.specs.Fold.{no_letters, FollowsFrom, victim_of}
use Rattle.mem_port.specs.declared.port.Port.{Port}
use Rattle.mem_port.specs.declared.port.Port.TheVariants.{Fetch, Access}
use Rattle.mem_port.specs.Ports.{MayAsk}
use Rattle.cache_ram.specs.declared.line.Line.{Line}
use Rattle.cache_ram.specs.Lines.{letter_in, word_in, filled_in, IsVictim}
use Rattle.coherence.specs.Bus.{left_in_phase, transitions_left}
use Rattle.coherence.specs.Split.{Past, IsSplit}
use Rattle.letters.proofs.LetterLaws.{FollowsFrom-append}
use Rattle.coherence.proofs.LetterLaws.{finish-suffices, moesi-table}
use Rattle.coherence.proofs.TransitionLaws.{grant-keeps}
use Rattle.coherence.proofs.FinishLaws.{ending, finish-keeps, finish-allowed}
use Rattle.cache_bus.specs.Caches.{cache_at, letters_in, words_in, lines_in, caches_of, is_victim_dirty, filled_after_finish, Installed}
use Rattle.cache_bus.specs.View.{slave_in, port_of}
use Rattle.cache_bus.specs.Calls.{Begins, Ends}
use Rattle.cache_bus.specs.Inside.{Inside, shown, bus_of, past_in, state_of, IsFit, Holds}
use Rattle.cache_bus.proofs.CountLaws.{count-others}
use Rattle.cache_bus.proofs.InsideLaws.{tables, past-bus, memory-size, off-slaves, fit-caches}

-- What may be asked is within memory, and on the code for a fetch.
pub may-inside : (image : ImageValue) (q : Port) (r : Request) → IsGood image → MayAsk image q r → r.addr < memory_bytes image
may-inside image (Fetch core) r good h =
    let within = apart_within (4 * length image.code) (memory_bytes image) image.segments good.apart in
    let on = h.1 in
    let lt : r.addr < 4 * length image.code = grind (arith, nat_tests) in
    omega (arith, lt, within)
may-inside image (Access core) r good h = h.1.1

may-code : (image : ImageValue) (k : ℕ) (r : Request) → IsGood image → MayAsk image (port_of k) r → k % 2 ≡ 0
    → (stores r.kind ≡ false) × (r.addr / 8 < length image.code / 2)
may-code image k r good h even =
    let e : port_of k ≡ Fetch (k / 2) = rw (eq-eqb (k % 2) 0 even) refl in
    by (subst (λ q. MayAsk image q r) e h)
  where
    by : MayAsk image (Fetch (k / 2)) r → (stores r.kind ≡ false) × (r.addr / 8 < length image.code / 2)
    by may = (
      ap stores may.0,
      (let on = may.1 in
          let lt : r.addr < 4 * length image.code = grind (arith, nat_tests) in
          let e = good.even_code in
          omega (arith, lt, e)),
    )

-- The first phase is a flush, or the address where no victim is dirty.
starts-dirty : (letter : ℕ → ℕ → Letter) (master : ℕ) (victim : Option ℕ) (dirty : Bool) → is_victim_dirty letter master victim ≡ dirty
    → (first_phase dirty ≡ phase.Flush) ⊎ ((first_phase dirty ≡ phase.Address) × ((v : ℕ) → victim ≡ Some v
    → is_dirty (letter master v) ≡ false))
starts-dirty letter master victim true is = inl refl
starts-dirty letter master victim false is = inr (refl, λ v e. ap (λ z. is_victim_dirty letter master z) (sym e) ∙ is)

module _ (s : Inside) (old : Holds s) where
  -- Grant.
  module _ (at : s.bus.phase ≡ phase.Off) (k : ℕ) (r : Request) (below : k < 2 * s.cores) (may : MayAsk s.image (port_of k) r)
      (miss : suffices (letters_in s.caches k (r.addr / 8)) (stores r.kind) ≡ false)
      (victim : Option ℕ) (is : victim
      ≡ victim_of 1 (letters_in s.caches k (r.addr / 8)) (lines_in s.caches k (r.addr / 8 % length (cache_at s.caches k))))
      (victim_held : (v : ℕ) → victim ≡ Some v → IsVictim (cache_at s.caches k) (r.addr / 8) v)
      (dirty supply : Bool) (dirty_is : dirty ≡ is_victim_dirty (letters_in s.caches) k victim)
      (supply_is : supply ≡ not (is_held (letters_in s.caches k (r.addr / 8)))) where
    abbrev begun : Inside
    begun = record s {
      bus = record {
        phase = first_phase dirty;
        master = k;
        line = r.addr / 8;
        im = stores r.kind;
        victim = victim;
        abandoned = false;
        supply = supply;
        ch = 0;
        di = None;
        low = 0;
        high = 0;
      };
    }

    starts : (first_phase dirty ≡ phase.Flush) ⊎ ((first_phase dirty ≡ phase.Address) × ((v : ℕ) → victim ≡ Some v
        → is_dirty (letters_in s.caches k v) ≡ false))
    starts = starts-dirty (letters_in s.caches) k victim dirty (sym dirty_is)

    begin-split : IsSplit s.image (caches_of s.sets) s.cores (past_in s) (state_of begun)
    begin-split =
        let within = may-inside s.image (port_of k) r old.fit.good may in
        let size = memory-size s old in
        let inside : 2 * (r.addr / 8) + 1 < length (past_in s).memory = omega (arith, within, size) in
        grant-keeps s.image (caches_of s.sets) s.cores (past_in s) (state_of s) (bus_of begun) old.split at
        (off-slaves s old at) below inside miss
        (may-code s.image k r old.fit.good may)
        (is ∙ ap (λ n. victim_of 1 (letters_in s.caches k (r.addr / 8)) (lines_in s.caches k (r.addr / 8 % n))) (old.fit.sizes k below))
        (λ v e. ((victim_held v e).other, (victim_held v e).held))
        supply_is (refl, refl) starts

    pub begin-holds : Holds begun
    begin-holds = record {
      fit = old.fit;
      room = λ h v e. victim_held v e;
      going = λ h. elim starts as (λ _. 1 ≤ left_in_phase (first_phase dirty) (slave_in s.slaves) k (2 * s.cores)) [
        | inl e ↦ rw e (omega arith)
        | inr e ↦ rw e.0 (omega arith)
      ];
      split = begin-split;
    }

    pub begin-begins : (spare : ℕ) → Begins k r (shown s spare) (shown begun spare)
    begin-begins spare = record {
      kept = record { image = refl; cores = refl; sets = refl };
      items = refl;
      spare = refl;
      on = elim starts as (λ _. is_on (first_phase dirty) ≡ true) [ inl e ↦ ap is_on e | inr e ↦ ap is_on e.0 ];
      master = refl;
      line = refl;
      im = refl;
      abandoned = refl;
      slaves = refl;
      left =
          (let h = count-others (λ x. is_fresh x) (slave_in s.slaves) k (2 * s.cores) below in
          let g = count-others (λ x. not (is_acted x)) (slave_in s.slaves) k (2 * s.cores) below in
          let o = one supply in
          elim starts as (λ _. transitions_left (bus_of begun) (2 * s.cores) + 1 ≤ 4 * s.cores + 3) [
            | inl e ↦ rw e (omega (arith, h, g, o))
            | inr e ↦ rw e.0 (omega (arith, h, g, o))
          ]);
    }
      where
        one : (z : Bool) → (let i : ℕ = 1 in let o : ℕ = 0 in (if z then i else o) ≤ 1)
        one true = omega arith
        one false = omega arith

  -- Finish.
  module _ (at : s.bus.phase ≡ phase.Finish) (caches' : List (List (Option Line))) (words : ℕ → ℕ) (slaves' : List SlavePhase)
      (words_are : (h : ℕ) → h < 2 → words h ≡ (if h == 0 then s.bus.low else s.bus.high))
      (here : Installed s.bus.line s.bus.victim (after_finish s.bus.im s.bus.ch) words (cache_at s.caches s.bus.master)
      (cache_at caches' s.bus.master))
      (others : (k : ℕ) → k ≢ s.bus.master → cache_at caches' k ≡ cache_at s.caches k) (len : length caches' ≡ length s.caches)
      (fresh : (k : ℕ) → slave_in slaves' k ≡ slave.Fresh) (parts : length slaves' ≡ length s.slaves) where
    abbrev ended : Inside
    ended = record s {
      caches = caches';
      bus = record s.bus { phase = phase.Off };
      slaves = slaves';
      items = s.items ++ Bus (ending (caches_of s.sets) (bus_of s)) ∷ [];
    }

    below : s.bus.master < 2 * s.cores
    below = (old.split.on (ap is_on at)).master

    size : length (cache_at s.caches s.bus.master) ≡ s.sets
    size = old.fit.sizes s.bus.master below

    abbrev filled_by : ℕ → List ℕ
    filled_by set =
        filled_after_finish s.bus.line s.bus.victim (is_held (letters_in s.caches s.bus.master s.bus.line))
        (lines_in s.caches s.bus.master set)

    filled-here : (set : ℕ)
        → lines_in caches' s.bus.master set ≡ (if set == s.bus.line % s.sets then filled_by set else lines_in s.caches s.bus.master set)
    filled-here set =
        elim (cases_eq set (s.bus.line % s.sets)) as (λ _. lines_in caches' s.bus.master set
        ≡ (if set == s.bus.line % s.sets then filled_by set else lines_in s.caches s.bus.master set)) [
          | inl e ↦
              (let place : set ≡ s.bus.line % length (cache_at s.caches s.bus.master) = e ∙ ap (λ n. s.bus.line % n) (sym size) in
              rw (eq-eqb set (s.bus.line % s.sets) e) (ap (λ z. lines_in caches' s.bus.master z) place
              ∙ (here.filled ∙ ap filled_by (sym place))))
          | inr ne ↦ here.filled_else set (λ q. ne (q ∙ ap (λ n. s.bus.line % n) size)) ∙ rw (ne_eqb set (s.bus.line % s.sets) ne) refl
        ]

    end-split : IsSplit s.image (caches_of s.sets) s.cores (past_in ended) (state_of ended)
    end-split =
        let P : Past → Type 0 = λ p. IsSplit s.image (caches_of s.sets) s.cores p (state_of ended) in
        subst P (sym (past-bus s.image (caches_of s.sets) s.items (ending (caches_of s.sets) (bus_of s))))
        (finish-keeps s.image (caches_of s.sets) s.cores (past_in s) (state_of s) (bus_of ended) (letters_in caches') (words_in caches')
        (lines_in caches')
        (tables s.sets) old.split at refl fresh here.letters (λ k l ne. ap (λ c. letter_in c l) (others k ne))
        (λ gone h lt. here.filled_words gone h lt ∙ words_are h lt) here.stays here.else_words
        (λ k i ne. ap (λ c. word_in c i) (others k ne)) filled-here (λ k set ne. ap (λ c. filled_in c set) (others k ne)))

    pub end-holds : Holds ended
    end-holds = record {
      fit = subst (λ n. IsFit s.image s.cores s.sets caches' n) (sym parts)
          (fit-caches s.image s.cores s.sets s.caches caches' (length s.slaves) s.bus.master old.fit len here.sets others);
      room = λ h. (let q : false ≡ true = h in cc);
      going = λ h. (let q : false ≡ true = h in cc);
      split = end-split;
    }

    end-follows : FollowsFrom (caches_of s.sets) s.cores (code_lines s.image) no_letters s.items
        → FollowsFrom (caches_of s.sets) s.cores (code_lines s.image) no_letters ended.items
    end-follows follows =
        FollowsFrom-append (caches_of s.sets) s.cores (code_lines s.image) no_letters s.items
        (Bus (ending (caches_of s.sets) (bus_of s)) ∷ []) follows (
          finish-allowed s.image (caches_of s.sets) s.cores (past_in s) (state_of s) (bus_of ended) (letters_in caches') (words_in caches')
              (lines_in caches')
              (tables s.sets) old.split at refl fresh here.letters (λ k l ne. ap (λ c. letter_in c l) (others k ne))
              (λ gone h lt. here.filled_words gone h lt ∙ words_are h lt) here.stays here.else_words
              (λ k i ne. ap (λ c. word_in c i) (others k ne)) filled-here (λ k set ne. ap (λ c. filled_in c set) (others k ne)),
          tt,
        )

    -- Afterwards the master's request is a hit.
    end-hit : suffices (letters_in caches' s.bus.master s.bus.line) s.bus.im ≡ true
    end-hit =
        ap (λ x. suffices x s.bus.im) (here.letters s.bus.line ∙ rw (eq-eqb s.bus.line s.bus.line refl) refl)
        ∙ finish-suffices moesi moesi-table s.bus.im s.bus.ch

    pub end-ends : (spare spare' : ℕ) → spare' + 1 ≡ spare → Ends (shown s spare) (shown ended spare')
    end-ends spare spare' one = record {
      kept = record { image = refl; cores = refl; sets = refl };
      items = (ending (caches_of s.sets) (bus_of s), (refl, record { master = refl; line = refl; im = refl; victim = refl }));
      spare = one;
      off = refl;
      follows = end-follows;
      hit = ap (λ x. suffices x s.bus.im) (sym (end-split.letters_are s.bus.master s.bus.line)) ∙ end-hit;
      fresh = fresh;
    }
