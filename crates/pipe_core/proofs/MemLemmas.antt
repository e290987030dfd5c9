-- The instruction in M does what the sequential machine does.
use Rattle.std.proofs.Common.{◌≡◌, ℕ, ◌*◌, ◌%◌, ◌<◌, Bool, true, false, refl, ap, sym, ◌∙◌, arith, length, IsSome}
use Rattle.std.proofs.lemmas.Grind.{common_steps}
use Rattle.mips_isa.specs.declared.Access.{Access}
use Rattle.mips_isa.proofs.StepsLaws.{instr_at-code}
use Rattle.std.specs.Prelude.{Option, Some, None, if◌then◌else◌}
use Rattle.mips_isa.specs.declared.Instr.{Instr}
use Rattle.mips_isa.specs.declared.Instr.TheVariants as is
use Rattle.mips_isa.specs.declared.Kind.{Kind}
use Rattle.mips_isa.specs.declared.Stop.{Stop}
use Rattle.mips_isa.specs.declared.Stop.TheVariants as why
use Rattle.mips_isa.specs.declared.CoreState.{CoreState}
use Rattle.mips_isa.specs.Kinds.{loaded, part}
use Rattle.mips_isa.specs.Effects.{first_stop, instr_stop, is_off_code, kind_of, address_of, written_by, result_of, next_pc_of}
use Rattle.mips_isa.specs.Steps.{rs_value_at, stop_of, next_of, next_at, next_by, finish_of, finish_by, kind_at, executed, answered}
use Rattle.mips_isa.specs.Steps.{instr_at}
use Rattle.pipe_regs.specs.declared.Slot.{Slot}
use Rattle.image_file.specs.Value.{ImageValue, IsGood, memory_bytes}
use Rattle.mem_port.specs.Loaded.{next_in, stop, stop_in, request, request_in, quiet, quiet_in, finish}
use Rattle.access_log.specs.Requests.{asked}
use Rattle.access_log.specs.declared.request.Request.{Request}
use Rattle.pipe_core.specs.Chain.{rt_value_at, expected_value_at, passed, Holds}
use Rattle.pipe_core.specs.Wants.{stop_at, asks, access_at}

-- the first stop, by whether it is off the code
stop-case : (b : Bool) (s : CoreState) (bytes memory : ℕ) (i : Option Instr)
    → (if b then Some why.OffCode else instr_stop bytes memory i (rs_value_at s i))
    ≡ (if b then Some why.OffCode else instr_stop bytes memory (if b then None else i) (rs_value_at s (if b then None else i)))
stop-case true s bytes memory i = refl
stop-case false s bytes memory i = refl

stop_of-same : (p : ImageValue) (s : CoreState) (m : Slot) → Holds p.code s m → stop_of p.code (memory_bytes p) s ≡ stop_at p m
unfolding stop_of stop_at first_stop
stop_of-same p s m h =
    stop-case (is_off_code (4 * length p.code) s.dpc) s (4 * length p.code) (memory_bytes p) (instr_at p.code s.dpc)
    ∙ sym (rw (h.a, h.instr, h.dpc) refl)

on-case : (b : Bool) (o : Option Stop) (i : Option Instr) → (if b then Some why.OffCode else o) ≡ None → (if b then None else i) ≡ i
on-case true o i e = cc
on-case false o i e = refl

pub off-even : (bytes dpc : ℕ) → is_off_code bytes dpc ≡ false → dpc % 4 ≡ 0
off-even bytes dpc e = grind (arith, common_steps)

pub off-below : (bytes dpc : ℕ) → is_off_code bytes dpc ≡ false → dpc < bytes
off-below bytes dpc e = grind (arith, common_steps)

pub off-none : (b : Bool) (o : Option Stop) → (if b then Some why.OffCode else o) ≡ None → b ≡ false
off-none true o e = cc
off-none false o e = refl

-- good code has an instruction where there is no stop
no_stop-some : (p : ImageValue) (s : CoreState) → IsGood p → stop_of p.code (memory_bytes p) s ≡ None → IsSome (instr_at p.code s.dpc)
unfolding stop_of first_stop
no_stop-some p s g e = instr_at-code p.code s.dpc g.code (off-below _ _ (off-none (is_off_code (4 * length p.code) s.dpc) _ e))

core_stop-case : (s : CoreState) (o : Option Stop) (i : Option Instr) → (o ≡ None → IsSome i) → stop_in (next_at s o i) ≡ o
core_stop-case s (Some why) i k = refl
core_stop-case s None None k = (let some = k refl in cc)
core_stop-case s None (Some i) k = by-kind (kind_of i) where
  by-kind : (kind : Option Kind) → stop_in (next_by s i kind) ≡ None
  by-kind None = refl
  by-kind (Some kind) = refl

-- the stop at which a core stands is the first one at its place
core-stop : (p : ImageValue) (s : CoreState) → IsGood p → stop p s ≡ stop_of p.code (memory_bytes p) s
unfolding stop next_in next_of
core-stop p s g = core_stop-case s (stop_of p.code (memory_bytes p) s) (instr_at p.code s.dpc) (λ e. no_stop-some p s g e)

pub stop-same : (p : ImageValue) (s : CoreState) (m : Slot) → IsGood p → Holds p.code s m → stop p s ≡ stop_at p m
stop-same p s m g h = core-stop p s g ∙ stop_of-same p s m h

-- where there is no stop, the instruction in M is the one at dpc
instr-same : (p : ImageValue) (s : CoreState) (m : Slot) → Holds p.code s m → stop_of p.code (memory_bytes p) s ≡ None
    → m.instr ≡ instr_at p.code s.dpc
unfolding stop_of first_stop
instr-same p s m h e = h.instr ∙ on-case (is_off_code (4 * length p.code) s.dpc) _ (instr_at p.code s.dpc) e

request-case : (n : ℕ) (s : CoreState) (m : Slot) (o : Option Stop) (i : Option Instr)
    → m.a ≡ rs_value_at s i → m.b ≡ rt_value_at s i → m.c ≡ expected_value_at s i
    → request_in n (next_at s o i) ≡ asks n m o i (kind_at i)
request-case n s m (Some why) i a b c = refl
request-case n s m None None a b c = refl
request-case n s m None (Some i) a b c = by-kind (kind_of i) where
  by-kind : (k : Option Kind) → request_in n (next_by s i k) ≡ asks n m None (Some i) k
  by-kind None = refl
  by-kind (Some k) = sym (rw (a, b, c) refl)

stop-or : (n : ℕ) (s : CoreState) (m : Slot) (o : Option Stop) (i j : Option Instr) → (o ≡ None → j ≡ i)
    → m.a ≡ rs_value_at s j → m.b ≡ rt_value_at s j → m.c ≡ expected_value_at s j
    → request_in n (next_at s o i) ≡ asks n m o j (kind_at j)
stop-or n s m (Some why) i j e a b c = refl
stop-or n s m None i j e a b c =
    ap (λ x. request_in n (next_at s None x)) (sym (e refl)) ∙ request-case n s m None j a b c

pub request-same : (p : ImageValue) (n : ℕ) (s : CoreState) (m : Slot) → Holds p.code s m → request p n s ≡ access_at p n m
unfolding request next_in next_of access_at
request-same p n s m h =
    stop-or n s m (stop_of p.code (memory_bytes p) s) (instr_at p.code s.dpc) m.instr (λ e. instr-same p s m h e) h.a h.b h.c
    ∙ ap (λ o. asks n m o m.instr (kind_at m.instr)) (stop_of-same p s m h)

-- an instruction of the code that neither stops nor makes an access
quiet-case : (n : ℕ) (s : CoreState) (m : Slot) (i : Option Instr) (w : ℕ) → IsSome i → asks n m None i (kind_at i) ≡ None
    → quiet_in s (next_at s None i) ≡ passed i s w
unfolding passed executed
quiet-case n s m None w some e = cc
quiet-case n s m (Some i) w some e = by-kind (kind_of i) refl e where
  by-kind : (k : Option Kind) → kind_of i ≡ k → asks n m None (Some i) k ≡ None → quiet_in s (next_by s i k) ≡ passed (Some i) s w
  by-kind None g e = rw g refl
  by-kind (Some k) g e = cc

pub quiet-same : (p : ImageValue) (n : ℕ) (s : CoreState) (m : Slot) (w : ℕ) → Holds p.code s m → IsSome m.instr → stop_at p m ≡ None
    → access_at p n m ≡ None
    → quiet p s ≡ passed m.instr s w
unfolding quiet next_in next_of access_at
quiet-same p n s m w h some no_stop g =
    let e = stop_of-same p s m h ∙ no_stop in
    let i = instr-same p s m h e in
    ap (λ o. quiet_in s (next_at s o (instr_at p.code s.dpc))) e
    ∙ (ap (λ x. quiet_in s (next_at s None x)) (sym i)
    ∙ quiet-case n s m m.instr w some (ap (λ o. asks n m o m.instr (kind_at m.instr)) (sym no_stop) ∙ g))

answered-passed : (i : Instr) (k : Kind) (s : CoreState) (old : ℕ) → kind_of i ≡ Some k
    → answered i k old s ≡ passed (Some i) s (loaded k old)
unfolding answered passed kind_of next_pc_of written_by result_of
answered-passed (is.Lw rt rs imm) k s old e = refl
answered-passed (is.Sw rt rs imm) k s old e = refl
answered-passed (is.Cas rd rs rt) k s old e = refl
answered-passed _ k s old e = cc

some-same : (q r : Request) → Some q ≡ Some r → q ≡ r
some-same q r e = cc

asked-kind_is : (n : ℕ) (access : Access) → (asked n access).kind ≡ access.kind
unfolding asked
asked-kind_is n access = refl

asked-kind : (n : ℕ) (m : Slot) (o : Option Stop) (i : Option Instr) (r : Request) → asks n m o i (kind_at i) ≡ Some r
    → (o ≡ None) × ((j : Instr) × ((i ≡ Some j) × (kind_of j ≡ Some r.kind)))
asked-kind n m (Some why) i r e = cc
asked-kind n m None None r e = cc
asked-kind n m None (Some i) r e = (refl, by-kind (kind_of i) refl e) where
  by-kind : (k : Option Kind) → kind_of i ≡ k → asks n m None (Some i) k ≡ Some r
      → (j : Instr) × ((Some i ≡ Some j) × (kind_of j ≡ Some r.kind))
  by-kind None g e = cc
  by-kind (Some k) g e =
      let q : Some (asked n (record { kind = k; addr = address_of i m.a; expected = m.c; value = part k 0 m.b })) ≡ Some r = e in
      let kr : k ≡ r.kind = sym (asked-kind_is n (record { kind = k; addr = address_of i m.a; expected = m.c; value = part k 0 m.b }))
      ∙ ap (λ x. x.kind) (some-same _ _ q) in
      (i, (refl, g ∙ ap (λ x. Some x) kr))

pub finish-same : (p : ImageValue) (n : ℕ) (s : CoreState) (m : Slot) (r : Request) (old : ℕ) → Holds p.code s m → access_at p n m ≡ Some r
    → finish p s old ≡ passed m.instr s (loaded r.kind old)
unfolding finish finish_of access_at
finish-same p n s m r old h e =
    let parts = asked-kind n m (stop_at p m) m.instr r e in
    let i = instr-same p s m h (stop_of-same p s m h ∙ parts.0) in
    let j = parts.1.0 in
    let js : m.instr ≡ Some j = parts.1.1.0 in
    let k : kind_of j ≡ Some r.kind = parts.1.1.1 in
    ap (λ x. finish_by s old x (kind_at x)) (sym i ∙ js)
    ∙ (ap (λ x. finish_by s old (Some j) x) k
    ∙ (answered-passed j r.kind s old k ∙ ap (λ x. passed x s (loaded r.kind old)) (sym js)))
