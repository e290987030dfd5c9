-- A clock keeps rows and stages a timetable.
use Rattle.std.proofs.Common.{[], ◌∷◌, ◌++◌, ◌≡◌, ℕ, ◌+◌, ◌*◌, ◌≤◌, ◌⊎◌, inl, inr, false, refl, ap, sym, ◌∙◌, arith, subst}
use Rattle.std.proofs.Common.{List, length, IsSome}
use Rattle.std.specs.Prelude.{Option, Some, None}
use Rattle.mips_isa.specs.declared.Instr.{Instr}
use Rattle.mips_isa.specs.declared.Stop.{Stop}
use Rattle.mips_isa.specs.Kinds.{loaded}
use Rattle.mips_isa.specs.Steps.{kind_at}
use Rattle.mips_isa.specs.Effects.{is_off_code}
use Rattle.pipe_regs.specs.declared.Slot.{Slot}
use Rattle.timetable.specs.Recurrence.{due_m}
use Rattle.mips_isa.specs.declared.Kind.{Kind}
use Rattle.timetable.specs.Tables.{Timed, timed, IsSoon, IsAnswered, IsRow, IsStopRow, IsTable, past_of}
use Rattle.image_file.specs.Value.{ImageValue}
use Rattle.mem_port.specs.Engine.{ReplyFits}
use Rattle.access_log.specs.declared.request.Request.{Request}
use Rattle.pipe_core.specs.declared.flight.Flight.{Flight}
use Rattle.pipe_core.specs.declared.flight.Operands.{Operands}
use Rattle.pipe_core.specs.Clock.{read_by, clocked}
use Rattle.pipe_core.specs.Moves.{committed_in, retired}
use Rattle.pipe_core.specs.OnTime.{IsOnTime, IsTimely}
use Rattle.pipe_core.specs.Punctual.{last_f, IsPunctual, IsTimed}
use Rattle.pipe_core.specs.Steps.{commits, retires, retired_where, stepped, advances, issues, begins}
use Rattle.pipe_core.specs.Table.{clock_where, row_of, kept, instr_where, table_after, TableValue, with_row}
use Rattle.pipe_core.specs.Wants.{goes_by, word_of, place_of, stop_at, access_at, asks, stop_in, access_in}
use Rattle.pipe_core.proofs.BeginTimeLemmas.{after-i}
use Rattle.pipe_core.proofs.ExTimeLemmas.{after-e}
use Rattle.pipe_core.proofs.IdTimeLemmas.{after-d, ready-d}
use Rattle.pipe_core.proofs.IfTimeLemmas.{after-f, after-left}
use Rattle.pipe_core.proofs.MemTimeLemmas.{stays-m, retires-m}
use Rattle.pipe_core.proofs.OnTimeLemmas.{greater-left, greater-right, retire-row, stop-row, past_of-append, table-append}
use Rattle.pipe_core.proofs.StageLemmas.{IsReady, LeavesAs, AfterM}

-- what WB leaves alone
pub record SameStages (f g : Flight) : Type 0 where
  pub executed : g.executed ≡ f.executed
  pub mem : g.stages.mem ≡ f.stages.mem
  pub ex : g.stages.ex ≡ f.stages.ex
  pub id : g.stages.id ≡ f.stages.id
  pub fetch : g.fetch ≡ f.fetch
  pub tm : g.mem_times ≡ f.mem_times
  pub tx : g.ex_times ≡ f.ex_times
  pub ti : g.id_times ≡ f.id_times
  pub tf : g.fetch_times ≡ f.fetch_times
  pub place : place_of g ≡ place_of f

commit-same : (f : Flight) (wb : Option Slot) → SameStages f (committed_in f wb)
commit-same f None = record
    { executed = refl; mem = refl; ex = refl; id = refl; fetch = refl; tm = refl; tx = refl; ti = refl; tf = refl; place = refl }
commit-same f (Some x) = record
    { executed = refl; mem = refl; ex = refl; id = refl; fetch = refl; tm = refl; tx = refl; ti = refl; tf = refl; place = refl }

pub commits-same : (f : Flight) → SameStages f (commits f)
unfolding commits
commits-same f = commit-same f f.stages.wb

moved-m : (k : Option ℕ) (p : ImageValue) (t : ℕ) (past : List Timed) (left place : ℕ) (held : Option Slot) (ops : Option Operands)
    (word : Option (Option Instr)) (f g : Flight) → SameStages f g → AfterM k p t past left place held ops word f
    → AfterM k p t past left place held ops word g
moved-m k p t past left place held ops word f g s a = record {
  timely = rw (s.mem, s.ex, s.id, s.fetch, s.tm, s.tx, s.ti, s.tf) a.timely;
  started = record {
    left_is = rw (s.mem, s.ex, s.id, s.tm, s.tx, s.ti) a.started.left_is;
    place_is = s.place ∙ a.started.place_is;
    held_is = s.fetch ∙ a.started.held_is;
    taken = λ n. a.started.taken (sym s.fetch ∙ n);
    idle = λ n. a.started.idle (sym s.fetch ∙ n);
  };
  earlier = a.earlier;
  mem_below = rw s.tm a.mem_below;
  ex_below = rw s.tx a.ex_below;
  id_below = rw s.ti a.id_below;
  fetch_below = rw s.tf a.fetch_below;
  ex_due = λ x k l. rw s.tx (a.ex_due x (sym s.mem ∙ k) (sym s.ex ∙ l));
  asks = λ m k l. a.asks m (sym s.mem ∙ k) (rw (s.executed, s.mem) at l);
  free = λ x o k l q r. rw (s.ex, s.mem) (a.free x o (sym s.id ∙ k) l q r);
  id_due = λ x o k l n. rw (s.ti, s.mem) (a.id_due x o (sym s.id ∙ k) l (sym s.ex ∙ n));
  blocked = λ x k l. rw (s.ex, s.mem) (a.blocked x (sym s.id ∙ k) l);
  fetch_now = λ k. s.fetch ∙ a.fetch_now (sym s.id ∙ k);
}

-- the stages after a clock
pub record IsAfterClock (k : Option ℕ) (p : ImageValue) (t : ℕ) (past : List Timed) (left place : ℕ) (held : Option Slot)
    (ops : Option Operands) (word : Option (Option Instr)) (g : Flight) : Type 0 where
  pub timely : IsTimely k past g
  pub punctual : IsPunctual p (t + 1) past g
  pub left_f : (last_f past g ≡ t + 1) ⊎ LeavesAs (last_f past g) left held word g

-- the younger stages, once M is done
rest : (goes : Option ℕ) (k : Option ℕ) (p : ImageValue) (t : ℕ) (past : List Timed) (left place : ℕ) (held : Option Slot)
    (ops : Option Operands) (word : Option (Option Instr)) (f : Flight)
    → AfterM k p t past left place held ops word (retires goes (commits f))
    → IsAfterClock k p t past left place held ops word (stepped goes ops word (t + 1) f)
unfolding stepped
rest goes k p t past left place held ops word f a =
    let e = after-e k p t past left place held ops word (retires goes (commits f)) a in
    let d = after-d k p t past left place held ops word (advances (t + 1) (retires goes (commits f))) e in
    let ready = ready-d k p t past left place held ops word (advances (t + 1) (retires goes (commits f))) e in
    let i = after-i k p t past left place held ops word (issues (t + 1) ops (advances (t + 1) (retires goes (commits f)))) ready d in
    let r = after-f k p t past left place held ops word
    (begins (t + 1) word (issues (t + 1) ops (advances (t + 1) (retires goes (commits f))))) i.1 i.0 in
    record {
      timely = r.0;
      punctual = r.1;
      left_f = after-left k p t past left place held ops word
          (begins (t + 1) word (issues (t + 1) ops (advances (t + 1) (retires goes (commits f))))) i.1;
    }

pub none-same : (goes : Option ℕ) (g : Flight) → (goes ≡ None) ⊎ (g.stages.mem ≡ None) → retires goes g ≡ g
unfolding retires
none-same None g e = refl
none-same (Some old) g (inl e) = cc
none-same (Some old) g (inr e) = ap (λ m. retired old g m) e

goes-same : (goes : Option ℕ) (g : Flight) (m : Slot) (old : ℕ) → goes ≡ Some old → g.stages.mem ≡ Some m
    → retires goes g ≡ retired old g (Some m)
unfolding retires
goes-same goes g m old e k = ap (λ o. retired_where o g) e ∙ ap (λ o. retired old g o) k

module _ (k : Option ℕ) (p : ImageValue) (t : ℕ) (f : Flight) (u : TableValue) (h : IsTimed k p t f u) where
  due-now : (access : Option Request) (e : ℕ) → (access ≡ None → e ≡ t) → e ≤ t → t + 1 ≡ due_m e (clock_where access (t + 1))
  due-now None e k l =
      let here : e ≡ t = k refl in
      ap (λ n. n + 1) (sym here) ∙ sym (greater-left (e + 1) 0 (omega arith))
  due-now (Some r) e k l = sym (greater-right (e + 1) (t + 1) (omega arith))

  -- an access is asked for by the instruction in M where it makes one and has no stop
  answer-now : (o : Option Stop) (m : Slot) (i : Option Instr) (kind : Option Kind) (access : Option Request) → (i ≡ None → kind ≡ None)
      → o ≡ None → asks f.executed m o i kind ≡ access → (e : ℕ) → e ≤ t
      → ((r : Request) → access ≡ Some r → IsSoon k (e + 1) (t + 1)) → IsAnswered k kind e (clock_where access (t + 1))
  answer-now (Some why) m i kind access none g h e l soon = cc
  answer-now None m None None None none g h e l soon = refl
  answer-now None m None None (Some r) none g h e l soon = cc
  answer-now None m None (Some x) access none g h e l soon = (let n = none refl in cc)
  answer-now None m (Some i) None None none g h e l soon = refl
  answer-now None m (Some i) None (Some r) none g h e l soon = cc
  answer-now None m (Some i) (Some x) None none g h e l soon = cc
  answer-now None m (Some i) (Some x) (Some r) none g h e l soon = (omega arith, soon r refl)

  no-kind : (i : Option Instr) → i ≡ None → kind_at i ≡ None
  no-kind None e = refl
  no-kind (Some i) e = cc

  row-now : (m : Slot) (access : Option Request) → stop_in p (Some m) ≡ None
      → ((r : Request) → access ≡ Some r → IsSoon k (f.mem_times.e + 1) (t + 1)) → f.stages.mem ≡ Some m
      → access_in p f.executed f.stages.mem ≡ access
      → IsRow k (past_of [] u.instrs u.rows) m.instr (row_of f.mem_times (clock_where access (t + 1)) (t + 1) (Some (t + 1 + 1)))
  unfolding access_at
  row-now m access no_stop soon e g =
      let P : Option Slot → Type 0 = λ s. IsOnTime k (past_of [] u.instrs u.rows) s f.stages.ex f.stages.id f.fetch f.mem_times f.ex_times
      f.id_times f.fetch_times in
      let late = h.punctual.mem_below.e in
      let asked : asks f.executed m (stop_at p m) m.instr (kind_at m.instr) ≡ access = sym (ap (λ o. access_in p f.executed o) e) ∙ g in
      retire-row k (past_of [] u.instrs u.rows) f.mem_times f.ex_times f.id_times f.fetch_times m
      (row_of f.mem_times (clock_where access (t + 1)) (t + 1) (Some (t + 1 + 1))) f.stages.ex f.stages.id f.fetch (subst P e h.stages)
      (answer-now (stop_at p m) m m.instr (kind_at m.instr) access (no-kind m.instr) no_stop asked f.mem_times.e late soon)
      (due-now access f.mem_times.e (λ n. h.punctual.mem_now m e (g ∙ n)) late) refl

  pub table-now : (m : Slot) (access : Option Request) → stop_in p (Some m) ≡ None
      → ((r : Request) → access ≡ Some r → IsSoon k (f.mem_times.e + 1) (t + 1)) → f.stages.mem ≡ Some m
      → access_in p f.executed f.stages.mem ≡ access
      → IsTable k [] (u.instrs ++ m.instr ∷ []) (u.rows ++ row_of f.mem_times (clock_where access (t + 1)) (t + 1) (Some (t + 1 + 1)) ∷ [])
  table-now m access no_stop soon e g = table-append k [] u.instrs u.rows m.instr _ h.rows (row-now m access no_stop soon e g)

-- how an instruction may begin, and an answer may come
pub record InTime (k : Option ℕ) (p : ImageValue) (t : ℕ) (past : List Timed) (word : Option (Option Instr)) (f : Flight) : Type 0 where
  pub begins : f.fetch ≡ None → (i : Option Instr) → word ≡ Some i → (i ≡ None → last_f past f ≡ t) × IsSoon k (last_f past f + 1) (t + 1)
  pub idle : f.fetch ≡ None → word ≡ None → is_off_code (4 * length p.code) (place_of f) ≡ false

-- rows and stages after a clock, and when the last instruction left IF
pub record IsTimedAfter (k : Option ℕ) (p : ImageValue) (t left : ℕ) (held : Option Slot) (word : Option (Option Instr)) (g : Flight)
    (u : TableValue) : Type 0 where
  pub timed : IsTimed k p (t + 1) g u
  pub left_f : (last_f (past_of [] u.instrs u.rows) g ≡ t + 1) ⊎ LeavesAs (last_f (past_of [] u.instrs u.rows) g) left held word g

module _ (k : Option ℕ) (p : ImageValue) (t : ℕ) (f : Flight) (u : TableValue) (h : IsTimed k p t f u) (goes : Option ℕ)
    (ops : Option Operands)
    (are : ops ≡ read_by f.stages.id f.stages) (word : Option (Option Instr)) (in_time : InTime k p t (past_of [] u.instrs u.rows) word f)
  where
    ready : IsReady k p t (past_of [] u.instrs u.rows) (last_f (past_of [] u.instrs u.rows) f) (place_of f) f.fetch word f
    ready = record { left_is = refl; place_is = refl; held_is = refl; taken = in_time.begins; idle = in_time.idle }

    past : List Timed
    past = past_of [] u.instrs u.rows

    timed-stays : (goes ≡ None) ⊎ (f.stages.mem ≡ None)
        → ((m : Slot) → f.stages.mem ≡ Some m → access_in p f.executed f.stages.mem ≡ None → ⊥)
        → IsTimedAfter k p t (last_f (past_of [] u.instrs u.rows) f) f.fetch word (stepped goes ops word (t + 1) f) u
    timed-stays e asks =
        let past = past_of [] u.instrs u.rows in
        let left = last_f (past_of [] u.instrs u.rows) f in
        let a = stays-m k p t past left (place_of f) f.fetch ops word f are ready h.stages h.punctual asks in
        let c = moved-m k p t past left (place_of f) f.fetch ops word f (commits f) (commits-same f) a in
        let P : Flight → Type 0 = λ g. AfterM k p t (past_of [] u.instrs u.rows) (last_f (past_of [] u.instrs u.rows) f) (place_of f)
        f.fetch ops word g in
        let here = subst P (sym (none-same goes (commits f) (mem-none e))) c in
        let r = rest goes k p t past left (place_of f) f.fetch ops word f here in
        record { timed = record { rows = h.rows; stages = r.timely; punctual = r.punctual }; left_f = r.left_f } where
          mem-none : (goes ≡ None) ⊎ (f.stages.mem ≡ None) → (goes ≡ None) ⊎ ((commits f).stages.mem ≡ None)
          mem-none (inl k) = inl k
          mem-none (inr k) = inr ((commits-same f).mem ∙ k)

    timed-goes : (m : Slot) (old : ℕ) (access : Option Request) → stop_in p (Some m) ≡ None
        → ((r : Request) → access ≡ Some r → IsSoon k (f.mem_times.e + 1) (t + 1)) → f.stages.mem ≡ Some m → goes ≡ Some old
        → access_in p f.executed f.stages.mem ≡ access
        → IsTimedAfter k p t (last_f (past_of [] u.instrs u.rows) f) f.fetch word (stepped goes ops word (t + 1) f)
        (with_row u m.instr (row_of f.mem_times (clock_where access (t + 1)) (t + 1) (Some (t + 1 + 1))))
    timed-goes m old access no_stop soon e g a_is =
        let c = commits-same f in
        let same = goes-same goes (commits f) m old g (c.mem ∙ e) in
        let row = row_of f.mem_times (clock_where access (t + 1)) (t + 1) (Some (t + 1 + 1)) in
        let past = past_of [] u.instrs u.rows in
        let left = last_f (past_of [] u.instrs u.rows) f in
        let a = retires-m k p t past left (place_of f) f.fetch ops word f (retires goes (commits f)) m row e refl are
        (ap (λ x. x.stages.mem) same) (ap (λ x. x.stages.ex) same ∙ c.ex) (ap (λ x. x.stages.id) same ∙ c.id)
        (ap (λ x. x.fetch) same ∙ c.fetch)
        (ap (λ x. x.mem_times) same ∙ c.tm) (ap (λ x. x.ex_times) same ∙ c.tx) (ap (λ x. x.id_times) same ∙ c.ti)
        (ap (λ x. x.fetch_times) same ∙ c.tf)
        (ap place_of same ∙ c.place) ready h.stages h.punctual in
        let r = rest goes k p t (timed m.instr row ∷ past_of [] u.instrs u.rows) left (place_of f) f.fetch ops word f a in
        let past_is = past_of-append k [] u.instrs u.rows m.instr row h.rows in
        let T : List Timed → Type 0 = λ x. IsTimely k x (stepped goes ops word (t + 1) f) in
        let Q : List Timed → Type 0 = λ x. IsPunctual p (t + 1) x (stepped goes ops word (t + 1) f) in
        let L : List Timed → Type 0 = λ x. (last_f x (stepped goes ops word (t + 1) f) ≡ t + 1)
        ⊎ LeavesAs (last_f x (stepped goes ops word (t + 1) f)) (last_f (past_of [] u.instrs u.rows) f) f.fetch word
        (stepped goes ops word (t + 1) f) in
        record {
          timed = record {
            rows = table-now k p t f u h m access no_stop soon e a_is;
            stages = subst T (sym past_is) r.timely;
            punctual = subst Q (sym past_is) r.punctual;
          };
          left_f = subst L (sym past_is) r.left_f;
        }

    clock-cases : (reply : Option ℕ) (mem : Option Slot) (access : Option Request) (came : Option ℕ) → f.stages.mem ≡ mem
        → access_in p f.executed f.stages.mem ≡ access
        → ReplyFits access came → goes ≡ goes_by mem access came → stop_in p mem ≡ None
        → ((r : Request) (w : ℕ) → access ≡ Some r → came ≡ Some w → IsSoon k (f.mem_times.e + 1) (t + 1))
        → IsTimedAfter k p t (last_f (past_of [] u.instrs u.rows) f) f.fetch word (stepped goes ops word (t + 1) f)
        (kept (goes_by mem access came) mem f.mem_times access (t + 1) u)
    clock-cases reply None access came e g fits n no_stop soon = timed-stays (inr e) (λ m l n. cc)
    clock-cases reply (Some m) None None e g fits n no_stop soon = timed-goes m 0 None no_stop (λ r q. cc) e n g
    clock-cases reply (Some m) None (Some w) e g fits n no_stop soon = absurd fits
    clock-cases reply (Some m) (Some r) None e g fits n no_stop soon = timed-stays (inl n) (λ n l o. cc)
    clock-cases reply (Some m) (Some r) (Some w) e g fits n no_stop soon = timed-goes m (loaded r.kind w) (Some r) no_stop
        (λ q h. soon r w refl refl) e n g

-- the word that begins in a clock
abbrev pub begins_with : ImageValue → Flight → Option ℕ → Option (Option Instr)
begins_with p f fetched = word_of (is_off_code (4 * length p.code) (place_of f)) fetched

pub clock-timed : (k : Option ℕ) (p : ImageValue) (t : ℕ) (f : Flight) (u : TableValue) (fetched reply : Option ℕ)
    → ReplyFits (access_in p f.executed f.stages.mem) reply → stop_in p f.stages.mem ≡ None
    → InTime k p t (past_of [] u.instrs u.rows) (begins_with p f fetched) f
    → ((r : Request) (w : ℕ) → access_in p f.executed f.stages.mem ≡ Some r → reply ≡ Some w → IsSoon k (f.mem_times.e + 1) (t + 1))
    → IsTimed k p t f u
    → IsTimedAfter k p t (last_f (past_of [] u.instrs u.rows) f) f.fetch (begins_with p f fetched) (clocked p fetched reply (t + 1) f)
    (table_after None p reply (t + 1) f u)
unfolding clocked
clock-timed k p t f u fetched reply fits no_stop in_time soon h =
    clock-cases k p t f u h (goes_by f.stages.mem (access_in p f.executed f.stages.mem) reply) (read_by f.stages.id f.stages) refl
    (begins_with p f fetched) in_time reply f.stages.mem (access_in p f.executed f.stages.mem) reply refl refl fits refl no_stop soon

-- a stop adds its row without W
stop-cases : (k : Option ℕ) (p : ImageValue) (t : ℕ) (f : Flight) (u : TableValue) (h : IsTimed k p t f u) (why : Stop)
    (mem : Option Slot) → f.stages.mem ≡ mem → stop_in p mem ≡ Some why
    → IsStopRow k (past_of [] u.instrs u.rows) (instr_where mem) (row_of f.mem_times None (t + 1) None)
unfolding access_at
stop-cases k p t f u h why None e g = cc
stop-cases k p t f u h why (Some m) e g =
    let none : access_in p f.executed f.stages.mem ≡ None =
    ap (λ o. access_in p f.executed o) e ∙ ap (λ o. asks f.executed m o m.instr (kind_at m.instr)) g in
    let P : Option Slot → Type 0 = λ s. IsOnTime k (past_of [] u.instrs u.rows) s f.stages.ex f.stages.id f.fetch f.mem_times f.ex_times
    f.id_times f.fetch_times in
    stop-row k (past_of [] u.instrs u.rows) f.mem_times f.ex_times f.id_times f.fetch_times m (row_of f.mem_times None (t + 1) None)
    f.stages.ex f.stages.id f.fetch
    (subst P e h.stages) refl (ap (λ x. x + 1) (sym (h.punctual.mem_now m e none))) refl

pub stop-timed : (k : Option ℕ) (p : ImageValue) (t : ℕ) (f : Flight) (u : TableValue) (why : Stop) → Some why ≡ stop_in p f.stages.mem
    → IsTimed k p t f u
    → IsStopRow k (past_of [] u.instrs u.rows) (instr_where f.stages.mem) (row_of f.mem_times None (t + 1) None)
stop-timed k p t f u why e h = stop-cases k p t f u h why f.stages.mem refl (sym e)

-- The end of a budget. An answer that is found then counts as one in a clock more.
drain-cases : (k : Option ℕ) (p : ImageValue) (t : ℕ) (f : Flight) (u : TableValue) (h : IsTimed k p t f u) (mem : Option Slot)
    (access : Option Request) (came : Option ℕ)
    → f.stages.mem ≡ mem → access_in p f.executed f.stages.mem ≡ access → IsSome access
    → ((w : ℕ) → came ≡ Some w → IsSoon k (f.mem_times.e + 1) (t + 1))
    → IsTable k [] (kept (goes_by mem access came) mem f.mem_times access (t + 1) u).instrs
    (kept (goes_by mem access came) mem f.mem_times access (t + 1) u).rows
unfolding access_at
drain-cases k p t f u h None access came e g some soon = h.rows
drain-cases k p t f u h (Some m) None came e g some soon = cc
drain-cases k p t f u h (Some m) (Some r) None e g some soon = h.rows
drain-cases k p t f u h (Some m) (Some r) (Some w) e g some soon =
    table-now k p t f u h m (Some r) (no-stop (stop_at p m) m.instr (kind_at m.instr) (sym (ap (λ o. access_in p f.executed o) e) ∙ g))
    (λ q n. soon w refl) e g where
      no-stop : (o : Option Stop) (i : Option Instr) (kind : Option Kind) → asks f.executed m o i kind ≡ Some r → o ≡ None
      no-stop None i kind q = refl
      no-stop (Some why) i kind q = cc

pub drain-table : (k : Option ℕ) (p : ImageValue) (t : ℕ) (f : Flight) (u : TableValue) (reply : Option ℕ)
    → IsSome (access_in p f.executed f.stages.mem) → ((w : ℕ) → reply ≡ Some w → IsSoon k (f.mem_times.e + 1) (t + 1)) → IsTimed k p t f u
    → IsTable k [] (table_after None p reply (t + 1) f u).instrs (table_after None p reply (t + 1) f u).rows
drain-table k p t f u reply some soon h = drain-cases k p t f u h f.stages.mem (access_in p f.executed f.stages.mem) reply refl refl some
    soon
