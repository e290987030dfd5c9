-- The instructions and rows of a run, with one more.
use Rattle.std.proofs.Common.{◌≡◌, ℕ, ◌+◌, refl, ap, sym, ◌∙◌, arith, List, [], ◌∷◌, ◌++◌, length}
use Rattle.std.specs.Prelude.{suc, Option, Some, None, slice_get}
use Rattle.std.specs.List.{AllByRecursion}
use Rattle.std.proofs.lemmas.List.{append-nil, map-append, length-append}
use Rattle.mips_isa.specs.declared.Instr.{Instr}
use Rattle.mips_isa.specs.declared.CoreState.{CoreState}
use Rattle.mips_isa.specs.Steps.{start, next_of}
use Rattle.image_file.specs.Value.{ImageValue, memory_bytes}
use Rattle.access_log.specs.declared.request.Request.{Request}
use Rattle.access_log.specs.Requests.{entry_of}
use Rattle.access_log.specs.Stamps.{Stamp, stamped}
use Rattle.std_laws.proofs.ListLaws.{slice_get_at}
use Rattle.timetable.specs.declared.rows.TimeRow.{TimeRow}
use Rattle.timetable.specs.Trace.{Walk, walk_by, walks, instr_on, trace}
use Rattle.timetable.proofs.TraceLaws.{walks-more, trace-more, walks-with}
use Rattle.mem_port.specs.Loaded.{next_in, stop, request, quiet, finish}
use Rattle.mem_port.proofs.LoadedLaws.{request-asks, next-goes}
use Rattle.pipe_core.specs.PipeRun.{olds_of, HasClock, AreOf}
use Rattle.pipe_core.proofs.RowLaws.{clocks-stay}

entry_of-nth : (core : ℕ) (r : Request) (old : ℕ) → (entry_of core r old).nth ≡ r.nth
unfolding entry_of
entry_of-nth core r old = refl

entry_of-old : (core : ℕ) (r : Request) (old : ℕ) → (entry_of core r old).old ≡ old
unfolding entry_of
entry_of-old core r old = refl

all-end : (P : Stamp → Type 0) (stamps : List Stamp) (stamp : Stamp) → AllByRecursion P stamps → P stamp
    → AllByRecursion P (stamps ++ stamp ∷ [])
all-end P [] stamp h k = (k, tt)
all-end P (s ∷ stamps) stamp h k = (h.0, all-end P stamps stamp h.1 k)

module _ (image : ImageValue) (core cores : ℕ) where
  pub of-rests : (n m : ℕ) (s t : CoreState) (stamps : List Stamp) (is : List (Option Instr)) (rows : List TimeRow) → m ≡ n → t ≡ s
      → AreOf image core cores n s stamps is rows
      → AreOf image core cores m t (stamps ++ []) is rows
  of-rests n m s t stamps is rows e g h = rw (e, g, append-nil stamps) h

  of-more : (n : ℕ) (s t : CoreState) (stamps later : List Stamp) (is : List (Option Instr)) (rows : List TimeRow) (i : Option Instr)
      (row : TimeRow) (more : List ℕ)
      → AreOf image core cores n s stamps is rows → olds_of later ≡ olds_of stamps ++ more
      → walk_by image.code s more (next_of image.code (memory_bytes image) s) ≡ Some (record { state = t; olds = [] })
      → i ≡ instr_on image.code s.dpc → AllByRecursion (HasClock (rows ++ row ∷ [])) later
      → AreOf image core cores (suc n) t later (is ++ i ∷ []) (rows ++ row ∷ [])
  of-more n s t stamps later is rows i row more h olds step at clocks =
      let code = image.code in
      let bytes = memory_bytes image in
      let s0 = start core cores in
      let w : Walk = record { state = s; olds = [] } in
      let too = walks-with code bytes n s0 (olds_of stamps) more w h.walked in
      let there : Walk = record { state = s; olds = more } in
      let go = walks-more code bytes n s0 (olds_of stamps ++ more) there too.walks_too ∙ step in
      let path = trace-more code bytes n s0 (olds_of stamps ++ more) there too.walks_too
      ∙ ap (λ l. l ++ instr_on code s.dpc ∷ []) (too.trace_too ∙ sym h.instrs_are) in
      record {
        walked = ap (λ l. walks code bytes (suc n) s0 l) olds ∙ go;
        instrs_are = ap (λ j. is ++ j ∷ []) at ∙ sym (ap (λ l. trace code bytes (suc n) s0 l) olds ∙ path);
        count = (let len = length-append rows (row ∷ []) in omega (arith, len, h.count));
        clocks = clocks;
      }

  pub of-goes : (n m : ℕ) (s t : CoreState) (stamps : List Stamp) (is : List (Option Instr)) (rows : List TimeRow) (i : Option Instr)
      (row : TimeRow)
      → stop image s ≡ None → request image n s ≡ None → m ≡ n + 1 → t ≡ quiet image s → i ≡ instr_on image.code s.dpc
      → AreOf image core cores n s stamps is rows
      → AreOf image core cores m t (stamps ++ []) (is ++ i ∷ []) (rows ++ row ∷ [])
  unfolding next_in
  of-goes n m s t stamps is rows i row no_stop no_access e g at h =
      let next = next-goes image n s no_stop no_access in
      let step : walk_by image.code s [] (next_of image.code (memory_bytes image) s) ≡ Some (record { state = t; olds = [] }) =
      ap (λ x. walk_by image.code s [] x) next ∙ sym (ap (λ x. Some (let w : Walk = record { state = x; olds = [] } in w)) g) in
      let one : m ≡ suc n = omega (arith, e) in
      let more = of-more n s t stamps (stamps ++ []) is rows i row [] h (map-append (λ (x : Stamp). x.entry.old) stamps []) step at
      (rw (append-nil stamps) (clocks-stay rows row stamps h.clocks)) in
      rw one more

  pub of-does : (n m : ℕ) (s t : CoreState) (stamps : List Stamp) (is : List (Option Instr)) (rows : List TimeRow) (i : Option Instr)
      (row : TimeRow) (r : Request) (word clock : ℕ)
      → request image n s ≡ Some r → m ≡ n + 1 → t ≡ finish image s word → i ≡ instr_on image.code s.dpc → row.a ≡ Some clock
      → AreOf image core cores n s stamps is rows
      → AreOf image core cores m t (stamps ++ stamped clock (entry_of core r word ∷ [])) (is ++ i ∷ []) (rows ++ row ∷ [])
  unfolding next_in finish
  of-does n m s t stamps is rows i row r word clock asks e g at answered h =
      let next = request-asks image n s r asks in
      let old = entry_of-old core r word in
      let nth : (entry_of core r word).nth ≡ length rows = entry_of-nth core r word ∙ (next.1 ∙ sym h.count) in
      let step : walk_by image.code s (word ∷ []) (next_of image.code (memory_bytes image) s) ≡ Some (record { state = t; olds = [] }) =
      ap (λ x. walk_by image.code s (word ∷ []) x) next.0 ∙ sym (ap (λ x. Some (let w : Walk = record { state = x; olds = [] } in w)) g) in
      let one : m ≡ suc n = omega (arith, e) in
      let olds : olds_of (stamps ++ stamped clock (entry_of core r word ∷ [])) ≡ olds_of stamps ++ word ∷ [] =
      map-append (λ (x : Stamp). x.entry.old) stamps (stamped clock (entry_of core r word ∷ [])) ∙ ap (λ x. olds_of stamps ++ x ∷ []) old in
      let mine : HasClock (rows ++ row ∷ []) (record { entry = entry_of core r word; cycle = clock }) =
      (row, (ap (λ k. slice_get (rows ++ row ∷ []) k) nth ∙ slice_get_at rows row [] (length rows) refl, answered)) in
      let more = of-more n s t stamps (stamps ++ stamped clock (entry_of core r word ∷ [])) is rows i row (word ∷ []) h olds step at
      (all-end (HasClock (rows ++ row ∷ [])) stamps (record { entry = entry_of core r word; cycle = clock })
      (clocks-stay rows row stamps h.clocks) mine) in
      rw one more
