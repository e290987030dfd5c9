-- A hit keeps what the history says.
use Rattle.std.proofs.Common.{◌≡◌, ◌≢◌, ℕ, ◌+◌, ◌*◌, ◌/◌, ◌<◌, ◌≤◌, inl, inr, Bool, true, false, List}
use Rattle.std.proofs.Common.{[], ◌∷◌, ◌++◌, length, refl, ap, sym, ◌∙◌, arith, subst}
use Rattle.std.specs.Prelude.{Option, Some, is_some, slice_index, not, ◌==◌, ◌&&◌, if◌then◌else◌, IsTrue}
use Rattle.std.proofs.Math.Path.{fun_ext}
use Rattle.std.proofs.lemmas.Bool.{cases_eq, and_parts, eq-eqb, ne_eqb}
use Rattle.std.proofs.lemmas.Bool.Decides.{nat_tests}
use Rattle.mips_isa.specs.declared.Kind.{Kind}
use Rattle.mips_isa.specs.declared.Kind.TheVariants as kind
use Rattle.mips_isa.specs.declared.Access as access_type
use Rattle.mips_isa.specs.Kinds.{stores, part}
use Rattle.image_file.specs.Value.{start_memory, code_lines}
use Rattle.access_log.specs.declared.Letter.{Letter}
use Rattle.access_log.specs.declared.Item.TheVariants.{Done}
use Rattle.access_log.specs.declared.request.Request.{Request}
use Rattle.access_log.specs.Items.{after_items}
use Rattle.access_log.specs.Memory.{new_part}
use Rattle.access_log.specs.Requests.{entry_of, access_of, old_at}
use Rattle.moesi_master.specs.Moesi.{is_held, after_hit, suffices}
use Rattle.moesi_master.specs.Phases.{is_on}
use Rattle.moesi_slave.specs.declared.SlavePhase.{SlavePhase}
use Rattle.moesi_slave.specs.Slave.{is_latched}
use Rattle.letters.specs.Fold.{no_letters, FollowsFrom}
use Rattle.mem_port.specs.Loaded.{on_code, IsProperAccess}
use Rattle.cache_ram.specs.declared.line.Line.{Line}
use Rattle.cache_ram.specs.Lines.{letter_in, word_in, filled_in, IsVictim}
use Rattle.coherence.specs.Split.{Past, past_entry, IsSplit}
use Rattle.letters.proofs.LetterLaws.{FollowsFrom-append}
use Rattle.coherence.proofs.LetterLaws.{suffices-held}
use Rattle.coherence.proofs.HitLaws.{hit-keeps, hit-follows}
use Rattle.cache_bus.specs.Caches.{cache_at, letters_in, words_in, lines_in, caches_of, Touched}
use Rattle.cache_bus.specs.View.{CacheBusView, slave_in, letter_now, serves_now}
use Rattle.cache_bus.specs.Inside.{Inside, shown, bus_of, past_in, state_of, Holds}
use Rattle.cache_bus.proofs.InsideLaws.{tables, past-entry, memory-size, fit-caches}

-- What is stored is stored by a kind that may store.
stored-by : (k : Kind) (a : access_type.Access) (old v : ℕ) → new_part k a old ≡ Some v → stores k ≡ true
stored-by kind.Fetch a old v e = cc
stored-by kind.Lw a old v e = cc
stored-by kind.Sw a old v e = refl
stored-by kind.Cas a old v e = refl

is-true : (x : Bool) → x ≡ true → IsTrue x
is-true x e = e

-- The same of caches as they are seen.
pub served-shown : (v w : CacheBusView) (index cache : ℕ) (r : Request) (x : Bool) → w ≡ v → index ≡ cache
    → serves_now v index r ≡ x → serves_now w cache r ≡ x
served-shown v w index cache r x e g h = ap (λ z. serves_now z cache r) e ∙ (ap (λ z. serves_now v z r) (sym g) ∙ h)

module _ (s : Inside) (old : Holds s) where
  -- A word of code in a copy.
  pub code-word : (k : ℕ) (r : Request) → on_code s.image r.addr ≡ true → is_held (letters_in s.caches k (r.addr / 8)) ≡ true
      → words_in s.caches k (r.addr / 4) ≡ slice_index s.image.code (r.addr / 4)
  code-word k r on h =
      let line : r.addr / 4 / 2 ≡ r.addr / 8 = omega arith in
      let lt : r.addr < 4 * length s.image.code = grind (arith, nat_tests) in
      old.split.agrees k (r.addr / 4) (ap (λ z. is_held (letters_in s.caches k z)) line ∙ h)
      ∙ old.split.code (r.addr / 4) (omega (arith, lt))

  pub answer-word : (k : ℕ) (r : Request) (word : ℕ) → is_held (letters_in s.caches k (r.addr / 8)) ≡ true
      → word ≡ part r.kind r.addr (words_in s.caches k (r.addr / 4)) → word ≡ old_at (after_items (start_memory s.image) s.items) r
  unfolding old_at
  answer-word k r word held e =
      let line : r.addr / 4 / 2 ≡ r.addr / 8 = omega arith in
      e ∙ ap (λ w. part r.kind r.addr w) (old.split.agrees k (r.addr / 4) (ap (λ z. is_held (letters_in s.caches k z)) line ∙ held))

  pub serves-told : (k spare : ℕ) (r : Request) (x : Letter) (y : SlavePhase) → x ≡ letters_in s.caches k (r.addr / 8)
      → y ≡ slave_in s.slaves k
      → (suffices x (stores r.kind) && not (is_latched y && (r.addr / 8 == s.bus.line))) ≡ serves_now (shown s spare) k r
  serves-told k spare r x y e g = rw (e ∙ old.split.letters_are k (r.addr / 8), g) refl

  -- What a request that is done as it is served says.
  pub serves-hit : (k spare : ℕ) (r : Request) → serves_now (shown s spare) k r ≡ true
      → suffices (letters_in s.caches k (r.addr / 8)) (stores r.kind) ≡ true
  serves-hit k spare r h =
      ap (λ x. suffices x (stores r.kind)) (old.split.letters_are k (r.addr / 8))
      ∙ (and_parts (suffices (letter_now (shown s spare) k (r.addr / 8)) (stores r.kind))
      (not (is_latched (slave_in s.slaves k) && (r.addr / 8 == s.bus.line))) h).0

  pub serves-held : (k spare : ℕ) (r : Request) → serves_now (shown s spare) k r ≡ true
      → is_held (letters_in s.caches k (r.addr / 8)) ≡ true
  serves-held k spare r h = suffices-held (letters_in s.caches k (r.addr / 8)) (stores r.kind) (serves-hit k spare r h)

  pub serves-free : (k spare : ℕ) (r : Request) → serves_now (shown s spare) k r ≡ true → r.addr / 8 ≡ s.bus.line
      → is_latched (slave_in s.slaves k) ≡ false
  serves-free k spare r h e =
      let free = (and_parts (suffices (letter_now (shown s spare) k (r.addr / 8)) (stores r.kind))
      (not (is_latched (slave_in s.slaves k) && (r.addr / 8 == s.bus.line))) h).1 in
      by (is_latched (slave_in s.slaves k)) (r.addr / 8 == s.bus.line) (eq-eqb (r.addr / 8) s.bus.line e) free
    where
      by : (x y : Bool) → y ≡ true → not (x && y) ≡ true → x ≡ false
      by true true q g = cc
      by true false q g = cc
      by false y q g = refl

  -- Where nothing is on, a request that isn't done as it is served is no hit.
  pub serves-miss : (k spare : ℕ) (r : Request) → is_latched (slave_in s.slaves k) ≡ false → serves_now (shown s spare) k r ≡ false
      → suffices (letters_in s.caches k (r.addr / 8)) (stores r.kind) ≡ false
  serves-miss k spare r none h =
      ap (λ x. suffices x (stores r.kind)) (old.split.letters_are k (r.addr / 8))
      ∙ by (suffices (letter_now (shown s spare) k (r.addr / 8)) (stores r.kind)) (is_latched (slave_in s.slaves k))
      (r.addr / 8 == s.bus.line) none h
    where
      by : (x y z : Bool) → y ≡ false → (x && not (y && z)) ≡ false → x ≡ false
      by true true z q g = cc
      by true false z q g = cc
      by false y z q g = refl

  module _ (caches' : List (List (Option Line))) (core : ℕ) (r : Request) (word spare : ℕ)
      (below : core < s.cores) (proper : IsProperAccess s.image r.kind r.addr)
      (served : serves_now (shown s spare) (2 * core + 1) r ≡ true)
      (other : is_on s.bus.phase ≡ true → 2 * core + 1 ≢ s.bus.master)
      (touched : Touched (entry_of core r word) (cache_at s.caches (2 * core + 1)) (cache_at caches' (2 * core + 1)))
      (others : (k : ℕ) → k ≢ 2 * core + 1 → cache_at caches' k ≡ cache_at s.caches k) (len : length caches' ≡ length s.caches) where
    abbrev after : Inside
    after = record s { caches = caches'; items = s.items ++ Done (entry_of core r word) ∷ [] }

    touched-letters : (k l : ℕ) → letters_in caches' k l
        ≡ (if (k == 2 * core + 1) && (l == r.addr / 8)
        then after_hit (letters_in s.caches k l) (is_some (entry_of core r word).new) else letters_in s.caches k l)
    unfolding entry_of access_of
    touched-letters k l =
        elim (cases_eq k (2 * core + 1)) as (λ _. letters_in caches' k l
        ≡ (if (k == 2 * core + 1) && (l == r.addr / 8)
        then after_hit (letters_in s.caches k l) (is_some (entry_of core r word).new) else letters_in s.caches k l)) [
          | inl e ↦
              (let P : ℕ → Type 0 = λ z. letters_in caches' z l
              ≡ (if (z == 2 * core + 1) && (l == r.addr / 8)
              then after_hit (letters_in s.caches z l) (is_some (entry_of core r word).new) else letters_in s.caches z l) in
              subst P (sym e) (touched.letters l ∙ rw (eq-eqb (2 * core + 1) (2 * core + 1) refl) refl))
          | inr ne ↦ ap (λ c. letter_in c l) (others k ne) ∙ rw (ne_eqb k (2 * core + 1) ne) refl
        ]

    touched-filled : (k set : ℕ) → lines_in s.caches k set ≡ lines_in caches' k set
    touched-filled k set = elim (cases_eq k (2 * core + 1)) as (λ _. lines_in s.caches k set ≡ lines_in caches' k set) [
      | inl e ↦ (let P : ℕ → Type 0 = λ z. lines_in s.caches z set ≡ lines_in caches' z set in subst P (sym e) (sym (touched.filled set)))
      | inr ne ↦ ap (λ c. filled_in c set) (sym (others k ne))
    ]

    word-else : (k i : ℕ) → i ≢ r.addr / 4 → words_in caches' k i ≡ words_in s.caches k i
    unfolding entry_of access_of
    word-else k i ne = elim (cases_eq k (2 * core + 1)) as (λ _. words_in caches' k i ≡ words_in s.caches k i) [
      | inl e ↦ (let P : ℕ → Type 0 = λ z. words_in caches' z i ≡ words_in s.caches z i in subst P (sym e) (touched.words i ne))
      | inr o ↦ ap (λ c. word_in c i) (others k o)
    ]

    inside : r.addr / 4 < length (past_in s).memory
    inside = let lt = proper.1.1 in let size = memory-size s old in omega (arith, lt, size)

    -- A store is behind the code.
    past-code : (v : ℕ) → new_part r.kind (access_of r) word ≡ Some v → length s.image.code ≤ r.addr / 4
    past-code v e = let le = proper.1.2 (is-true (stores r.kind) (stored-by r.kind (access_of r) word v e)) in omega (arith, le)

    answer-split : IsSplit s.image (caches_of s.sets) s.cores (past_in after) (state_of after)
    unfolding entry_of access_of
    answer-split =
        let kept = hit-keeps s.image (caches_of s.sets) s.cores (past_in s) (state_of s) (entry_of core r word) (letters_in caches')
        (words_in caches')
        (tables s.sets) old.split below (serves-hit (2 * core + 1) spare r served) (serves-free (2 * core + 1) spare r served) other inside
        (λ v e. stored-by r.kind (access_of r) word v e) (λ v e. past-code v e) touched-letters touched.here
        (λ k i ne. ap (λ c. word_in c i) (others k ne)) word-else in
        let P : Past → Type 0 = λ p. IsSplit s.image (caches_of s.sets) s.cores p (state_of after) in
        let Q : (ℕ → ℕ → List ℕ) → Type 0 = λ f. IsSplit s.image (caches_of s.sets) s.cores (past_entry (past_in s) (entry_of core r word))
        (record { letter = letters_in caches'; word = words_in caches'; filled = f; main = s.main; bus = bus_of s }) in
        subst P (sym (past-entry s.image (caches_of s.sets) s.items (entry_of core r word)))
        (subst Q (fun_ext (λ k. fun_ext (λ set. touched-filled k set))) kept)

    pub answer-holds : Holds after
    answer-holds = record {
      fit = fit-caches s.image s.cores s.sets s.caches caches' (length s.slaves) (2 * core + 1) old.fit len touched.sets others;
      room = λ h v e. subst (λ c. IsVictim c s.bus.line v) (sym (others s.bus.master (λ q. other h (sym q)))) (old.room h v e);
      going = old.going;
      split = answer-split;
    }

    -- The history follows the letters.
    pub answer-follows : FollowsFrom (caches_of s.sets) s.cores (code_lines s.image) no_letters s.items
        → FollowsFrom (caches_of s.sets) s.cores (code_lines s.image) no_letters (s.items ++ Done (entry_of core r word) ∷ [])
    unfolding entry_of access_of
    answer-follows follows =
        FollowsFrom-append (caches_of s.sets) s.cores (code_lines s.image) no_letters s.items (Done (entry_of core r word) ∷ []) follows (
          hit-follows s.image (caches_of s.sets) s.cores (past_in s) (state_of s) (entry_of core r word) (letters_in caches')
              (words_in caches')
              (tables s.sets) old.split below (serves-hit (2 * core + 1) spare r served)
              (serves-free (2 * core + 1) spare r served) other inside
              (λ v e. stored-by r.kind (access_of r) word v e) (λ v e. past-code v e) touched-letters touched.here
              (λ k i ne. ap (λ c. word_in c i) (others k ne)) word-else,
          tt,
        )
