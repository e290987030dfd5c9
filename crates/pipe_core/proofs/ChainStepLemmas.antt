-- A clock keeps the chain, and executes at most the instruction in M.
use Rattle.std.proofs.Common.{[], ◌≡◌, ℕ, ◌+◌, ◌<◌, refl, ap, sym, ◌∙◌, subst, List, length}
use Rattle.std.specs.Prelude.{Option, Some, None}
use Rattle.mips_isa.specs.declared.Instr.{Instr}
use Rattle.mips_isa.specs.declared.CoreState.{CoreState}
use Rattle.mips_isa.specs.Effects.{rs_of, rt_of, expected_by}
use Rattle.pipe_regs.specs.declared.Slot.{Slot}
use Rattle.image_file.specs.Value.{ImageValue}
use Rattle.timetable.specs.Trace.{instr_on}
use Rattle.pipe_core.specs.declared.flight.Flight.{Flight}
use Rattle.pipe_core.specs.declared.flight.Operands.{Operands}
use Rattle.pipe_core.specs.Chain.{passed, Holds, HoldsWhere, Chained, AreRead, regs_of, state_of, IsChained}
use Rattle.pipe_core.specs.Moves.{follow, committed_in, retired, advanced, issued, begun_in, entered, operands_of}
use Rattle.pipe_core.specs.Steps.{commits, retires, retired_where, advances, issues, begins, enters, stepped}
use Rattle.pipe_core.specs.Wants.{place_of, fetch_in}
use Rattle.pipe_core.proofs.ChainLemmas.{advance-chained, issue-chained, begin-chained, enter-chained, retire-parts, retire-state}
use Rattle.pipe_core.proofs.ChainLemmas.{read-retire, read-advance}
use Rattle.pipe_core.proofs.ForwardLemmas.{operands-read}

-- what the older stages leave alone
pub record KeepsYoung (old new : Flight) : Type 0 where
  pub id : new.stages.id ≡ old.stages.id
  pub fetch : new.fetch ≡ old.fetch
  pub front_dpc : new.front_dpc ≡ old.front_dpc
  pub front_pc : new.front_pc ≡ old.front_pc

pub record KeepsState (old new : Flight) : Type 0 where
  pub state : state_of new ≡ state_of old
  pub executed : new.executed ≡ old.executed

young-more : (f g h : Flight) → KeepsYoung f g → KeepsYoung g h → KeepsYoung f h
young-more f g h a b = record
    { id = b.id ∙ a.id; fetch = b.fetch ∙ a.fetch; front_dpc = b.front_dpc ∙ a.front_dpc; front_pc = b.front_pc ∙ a.front_pc }

state-more : (f g h : Flight) → KeepsState f g → KeepsState g h → KeepsState f h
state-more f g h a b = record { state = b.state ∙ a.state; executed = b.executed ∙ a.executed }

young-same : (f : Flight) → KeepsYoung f f
young-same f = record { id = refl; fetch = refl; front_dpc = refl; front_pc = refl }

state-same : (f : Flight) → KeepsState f f
state-same f = record { state = refl; executed = refl }

-- WB
pub record Committed (code : List ℕ) (f g : Flight) : Type 0 where
  pub young : KeepsYoung f g
  pub state : KeepsState f g
  pub mem : g.stages.mem ≡ f.stages.mem
  pub ex : g.stages.ex ≡ f.stages.ex
  pub wb : g.stages.wb ≡ None

commit-cases : (code : List ℕ) (f : Flight) (wb : Option Slot) → f.stages.wb ≡ wb → Committed code f (committed_in f wb)
commit-cases code f None e = record { young = young-same f; state = state-same f; mem = refl; ex = refl; wb = e }
commit-cases code f (Some x) e = record {
  young = record { id = refl; fetch = refl; front_dpc = refl; front_pc = refl };
  state = record {
    state = sym (ap (λ o. (let t : CoreState = record { pc = f.pc; dpc = f.dpc; regs = regs_of f.stages.regs o } in t)) e);
    executed = refl;
  };
  mem = refl;
  ex = refl;
  wb = refl;
}

pub committed : (code : List ℕ) (f : Flight) → Committed code f (commits f)
unfolding commits
committed code f = commit-cases code f f.stages.wb refl

-- a chain speaks of the state and the stages alone
moved-chain : (code : List ℕ) (f g : Flight) (s t : CoreState) → t ≡ s → g.stages.mem ≡ f.stages.mem → g.stages.ex ≡ f.stages.ex
    → KeepsYoung f g
    → IsChained code s f → IsChained code t g
moved-chain code f g s t e m x y h = rw (e, m, x, y.id, y.fetch, y.front_dpc, y.front_pc) h

moved-read : (f g : Flight) (s t : CoreState) (i : Option Instr) (a b c : ℕ) → t ≡ s → g.stages.mem ≡ f.stages.mem
    → g.stages.ex ≡ f.stages.ex
    → AreRead s f.stages.mem f.stages.ex i a b c → AreRead t g.stages.mem g.stages.ex i a b c
moved-read f g s t i a b c e m x h = rw (e, m, x) h

-- M
pub record Retired (code : List ℕ) (f g : Flight) : Type 0 where
  pub young : KeepsYoung f g
  pub chained : IsChained code (state_of g) g
  pub read : (i : Option Instr) (a b c : ℕ) → AreRead (state_of f) f.stages.mem f.stages.ex i a b c
      → AreRead (state_of g) g.stages.mem g.stages.ex i a b c

retire-cases : (code : List ℕ) (f : Flight) (goes : Option ℕ) (mem : Option Slot) → f.stages.mem ≡ mem → f.stages.wb ≡ None
    → IsChained code (state_of f) f
    → (old : ℕ) → goes ≡ Some old → Retired code f (retired old f mem)
retire-cases code f goes None e w h old g = record { young = young-same f; chained = h; read = λ i a b c r. r }
retire-cases code f goes (Some m) e w h old g =
    let P : Option Slot → Type 0 = λ o. Chained code (state_of f) o f.stages.ex f.stages.id f.fetch f.front_dpc f.front_pc in
    let h' : Chained code (state_of f) (Some m) f.stages.ex f.stages.id f.fetch f.front_dpc f.front_pc = subst P e h in
    let st : state_of (retired old f (Some m)) ≡ passed m.instr (state_of f) old = retire-state code f m old w h'.in_mem in
    let Q : CoreState → Type 0 = λ t. Chained code t None f.stages.ex f.stages.id f.fetch f.front_dpc f.front_pc in
    record {
      young = record { id = refl; fetch = refl; front_dpc = refl; front_pc = refl };
      chained = subst Q (sym st) (retire-parts code (state_of f) m f.stages.ex f.stages.id f.fetch f.front_dpc f.front_pc old h');
      read = λ i a b c r. (
          let R : Option Slot → Type 0 = λ o. AreRead (state_of f) o f.stages.ex i a b c in
          let S : CoreState → Type 0 = λ t. AreRead t None f.stages.ex i a b c in
          subst S (sym st) (read-retire code (state_of f) m f.stages.ex i a b c old (subst R e r)));
    }

retire-goes : (code : List ℕ) (f : Flight) (goes : Option ℕ) → f.stages.wb ≡ None → IsChained code (state_of f) f
    → Retired code f (retired_where goes f)
retire-goes code f None w h = record { young = young-same f; chained = h; read = λ i a b c r. r }
retire-goes code f (Some old) w h = retire-cases code f (Some old) f.stages.mem refl w h old refl

pub retires-keeps : (code : List ℕ) (f : Flight) (goes : Option ℕ) → f.stages.wb ≡ None → IsChained code (state_of f) f
    → Retired code f (retires goes f)
unfolding retires
retires-keeps code f goes w h = retire-goes code f goes w h

-- EX
pub record Advanced (f g : Flight) : Type 0 where
  pub young : KeepsYoung f g
  pub state : KeepsState f g
  pub read : (s : CoreState) (i : Option Instr) (a b c : ℕ) → AreRead s f.stages.mem f.stages.ex i a b c
      → AreRead s g.stages.mem g.stages.ex i a b c
  pub mem : (m : Slot) → f.stages.mem ≡ Some m → g.stages.mem ≡ Some m

advance-facts : (t : ℕ) (f : Flight) (mem ex : Option Slot) → f.stages.mem ≡ mem → f.stages.ex ≡ ex → Advanced f (advanced t f mem ex)
advance-facts t f (Some m) ex e g = record { young = young-same f; state = state-same f; read = λ s i a b c r. r; mem = λ n k. k }
advance-facts t f None None e g = record { young = young-same f; state = state-same f; read = λ s i a b c r. r; mem = λ n k. k }
advance-facts t f None (Some x) e g = record {
  young = record { id = refl; fetch = refl; front_dpc = refl; front_pc = refl };
  state = record { state = refl; executed = refl };
  read = λ s i a b c r. (
      let R : Option Slot → Type 0 = λ o. AreRead s o f.stages.ex i a b c in
      let S : Option Slot → Type 0 = λ o. AreRead s None o i a b c in
      read-advance [] s (Some x) i a b c (subst S g (subst R e r)));
  mem = λ n k. cc;
}

pub advances-keeps : (t : ℕ) (f : Flight) → Advanced f (advances t f)
unfolding advances
advances-keeps t f = advance-facts t f f.stages.mem f.stages.ex refl refl

pub advances-chained : (code : List ℕ) (s : CoreState) (t : ℕ) (f : Flight) → IsChained code s f → IsChained code s (advances t f)
unfolding advances
advances-chained code s t f h = advance-chained code s t f h

-- ID, IF
pub record Younger (f g : Flight) : Type 0 where
  pub state : KeepsState f g
  pub mem : g.stages.mem ≡ f.stages.mem

issue-facts : (t : ℕ) (o : Option Operands) (f : Flight) (ex id : Option Slot) → f.stages.id ≡ id
    → Younger f (issued t o f ex id) × ((issued t o f ex id).fetch ≡ f.fetch) × (place_of (issued t o f ex id) ≡ place_of f)
issue-facts t o f (Some x) id e = (record { state = state-same f; mem = refl }, refl, refl)
issue-facts t o f None None e = (record { state = state-same f; mem = refl }, refl, refl)
issue-facts t None f None (Some x) e = (record { state = state-same f; mem = refl }, refl, refl)
issue-facts t (Some p) f None (Some x) e =
    (record { state = record { state = refl; executed = refl }; mem = refl }, refl, sym (ap (λ o. follow o f.front_dpc f.front_pc) e))

pub issues-keeps : (t : ℕ) (o : Option Operands) (f : Flight)
    → Younger f (issues t o f) × ((issues t o f).fetch ≡ f.fetch) × (place_of (issues t o f) ≡ place_of f)
unfolding issues
issues-keeps t o f = issue-facts t o f f.stages.ex f.stages.id refl

pub issues-chained : (code : List ℕ) (s : CoreState) (t : ℕ) (o : Option Operands) (f : Flight)
    → ((x : Slot) (p : Operands) → o ≡ Some p → f.stages.id ≡ Some x → AreRead s f.stages.mem f.stages.ex x.instr p.a p.b p.c)
    → IsChained code s f → IsChained code s (issues t o f)
unfolding issues
issues-chained code s t o f r h = issue-chained code s t o f r h

begin-facts : (t : ℕ) (word : Option (Option Instr)) (f : Flight) (fetch : Option Slot) → f.fetch ≡ fetch
    → Younger f (begun_in t word f fetch) × (word ≡ None → begun_in t word f fetch ≡ f)
begin-facts t word f (Some y) e = (record { state = state-same f; mem = refl }, λ g. refl)
begin-facts t None f None e = (record { state = state-same f; mem = refl }, λ g. refl)
begin-facts t (Some i) f None e = (record { state = record { state = refl; executed = refl }; mem = refl }, λ g. cc)

pub begins-keeps : (t : ℕ) (word : Option (Option Instr)) (f : Flight) → Younger f (begins t word f) × (word ≡ None → begins t word f ≡ f)
unfolding begins
begins-keeps t word f = begin-facts t word f f.fetch refl

pub begins-chained : (code : List ℕ) (s : CoreState) (t : ℕ) (word : Option (Option Instr)) (f : Flight)
    → ((i : Option Instr) → f.fetch ≡ None → word ≡ Some i → i ≡ instr_on code (place_of f))
    → IsChained code s f → IsChained code s (begins t word f)
unfolding begins
begins-chained code s t word f r h = begin-chained code s t word f r h

enter-facts : (t : ℕ) (f : Flight) (id fetch : Option Slot) → f.fetch ≡ fetch
    → Younger f (entered t f id fetch) × (f.fetch ≡ None → entered t f id fetch ≡ f)
enter-facts t f (Some x) fetch e = (record { state = state-same f; mem = refl }, λ g. refl)
enter-facts t f None None e = (record { state = state-same f; mem = refl }, λ g. refl)
enter-facts t f None (Some y) e = (record { state = record { state = refl; executed = refl }; mem = refl }, λ g. cc)

pub enters-keeps : (t : ℕ) (f : Flight) → Younger f (enters t f) × (f.fetch ≡ None → enters t f ≡ f)
unfolding enters
enters-keeps t f = enter-facts t f f.stages.id f.fetch refl

pub enters-chained : (code : List ℕ) (s : CoreState) (t : ℕ) (f : Flight) → IsChained code s f → IsChained code s (enters t f)
unfolding enters
enters-chained code s t f h = enter-chained code s t f h

pub young-place : (f g : Flight) → KeepsYoung f g → place_of g ≡ place_of f
young-place f g y = rw (y.id, y.front_dpc, y.front_pc) refl

younger-more : (f g h : Flight) → Younger f g → Younger g h → Younger f h
younger-more f g h a b = record { state = state-more f g h a.state b.state; mem = b.mem ∙ a.mem }

module _ (code : List ℕ) (goes : Option ℕ) (ops : Option Operands) (word : Option (Option Instr)) (t : ℕ) (f : Flight) where
  pub chain1 : IsChained code (state_of f) f → IsChained code (state_of (commits f)) (commits f)
  chain1 h =
      let k = committed code f in
      moved-chain code f (commits f) (state_of f) (state_of (commits f)) k.state.state k.mem k.ex k.young h

  pub young2 : IsChained code (state_of f) f → KeepsYoung f (retires goes (commits f))
  young2 h = young-more f (commits f) _ (committed code f).young
      (retires-keeps code (commits f) goes (committed code f).wb (chain1 h)).young

  young3 : IsChained code (state_of f) f → KeepsYoung f (advances t (retires goes (commits f)))
  young3 h = young-more f (retires goes (commits f)) _ (young2 h) (advances-keeps t (retires goes (commits f))).young

  place4 : IsChained code (state_of f) f → place_of (issues t ops (advances t (retires goes (commits f)))) ≡ place_of f
  place4 h = (issues-keeps t ops (advances t (retires goes (commits f)))).2 ∙ young-place f _ (young3 h)

  fetch4 : IsChained code (state_of f) f → (issues t ops (advances t (retires goes (commits f)))).fetch ≡ f.fetch
  fetch4 h = (issues-keeps t ops (advances t (retires goes (commits f)))).1 ∙ (young3 h).fetch

  -- the younger stages leave the state alone
  younger : Younger (advances t (retires goes (commits f))) (stepped goes ops word t f)
  unfolding stepped
  younger =
      younger-more _ (issues t ops (advances t (retires goes (commits f)))) _ (issues-keeps t ops (advances t (retires goes (commits f)))).0
      (younger-more _ (begins t word (issues t ops (advances t (retires goes (commits f))))) _
      (begins-keeps t word (issues t ops (advances t (retires goes (commits f))))).0
      (enters-keeps t (begins t word (issues t ops (advances t (retires goes (commits f)))))).0)

  pub state-after : KeepsState (retires goes (commits f)) (stepped goes ops word t f)
  state-after = state-more _ (advances t (retires goes (commits f))) _ (advances-keeps t (retires goes (commits f))).state younger.state

  pub stepped-chained : IsChained code (state_of f) f → length f.stages.regs ≡ 32
      → ((j : Instr) (x : Slot) → f.stages.id ≡ Some x → x.instr ≡ Some j → (rs_of j < 32) × (rt_of j < 32) × (expected_by j < 32))
      → ((x : Slot) → f.stages.id ≡ Some x → ops ≡ operands_of x.instr f.stages)
      → ((i : Option Instr) → f.fetch ≡ None → word ≡ Some i → i ≡ instr_on code (place_of f))
      → IsChained code (state_of (stepped goes ops word t f)) (stepped goes ops word t f)
  unfolding stepped
  stepped-chained h len few are begins_at =
      let k1 = committed code f in
      let c1 = chain1 h in
      let k2 = retires-keeps code (commits f) goes k1.wb c1 in
      let s2 = state_of (retires goes (commits f)) in
      let a3 = advances-keeps t (retires goes (commits f)) in
      let c3 : IsChained code s2 (advances t (retires goes (commits f))) = advances-chained code s2 t (retires goes (commits f))
      k2.chained in
      let c4 : IsChained code s2 (issues t ops (advances t (retires goes (commits f)))) =
      issues-chained code s2 t ops (advances t (retires goes (commits f)))
      (λ x p e g. (
      let at : f.stages.id ≡ Some x = sym (young3 h).id ∙ g in
      let r0 = operands-read code f x.instr p h len (λ j q. few j x at q) (sym (are x at) ∙ e) in
      let r1 = moved-read f (commits f) (state_of f) (state_of (commits f)) x.instr p.a p.b p.c k1.state.state k1.mem k1.ex r0 in
      a3.read s2 x.instr p.a p.b p.c (k2.read x.instr p.a p.b p.c r1)))
      c3 in
      let c5 : IsChained code s2 (begins t word (issues t ops (advances t (retires goes (commits f))))) =
      begins-chained code s2 t word (issues t ops (advances t (retires goes (commits f))))
      (λ i e g. begins_at i (sym (fetch4 h) ∙ e) g ∙ ap (λ a. instr_on code a) (sym (place4 h))) c4 in
      let c6 : IsChained code s2 (stepped goes ops word t f) = enters-chained code s2 t
      (begins t word (issues t ops (advances t (retires goes (commits f))))) c5 in
      let P : CoreState → Type 0 = λ s. IsChained code s (stepped goes ops word t f) in
      subst P (sym state-after.state) c6

  -- a fetch that is wanted and not given is wanted as before
  pub fetch-stays : (p : ImageValue) → IsChained code (state_of f) f → word ≡ None → f.fetch ≡ None
      → fetch_in p (stepped goes ops word t f) ≡ fetch_in p f
  unfolding stepped
  fetch-stays p h e g =
      let b = (begins-keeps t word (issues t ops (advances t (retires goes (commits f))))).1 e in
      let n : (begins t word (issues t ops (advances t (retires goes (commits f))))).fetch ≡ None = ap (λ x. x.fetch) b ∙ (fetch4 h ∙ g) in
      let c = (enters-keeps t (begins t word (issues t ops (advances t (retires goes (commits f)))))).1 n in
      ap (λ x. fetch_in p x) (c ∙ b) ∙ rw (fetch4 h, place4 h) refl

  -- what happens in M
  pub mem-stays : (m : Slot) → f.stages.mem ≡ Some m → goes ≡ None → (stepped goes ops word t f).stages.mem ≡ Some m
  unfolding retires
  mem-stays m e g =
      let r : (retires goes (commits f)).stages.mem ≡ Some m = ap (λ o. (retired_where o (commits f)).stages.mem) g
      ∙ ((committed code f).mem ∙ e) in
      younger.mem ∙ (advances-keeps t (retires goes (commits f))).mem m r

  pub rests : goes ≡ None → KeepsState f (stepped goes ops word t f)
  unfolding retires
  rests g =
      let r : retires goes (commits f) ≡ commits f = ap (λ o. retired_where o (commits f)) g in
      let k = (committed code f).state in
      record {
        state = state-after.state ∙ (ap state_of r ∙ k.state);
        executed = state-after.executed ∙ (ap (λ x. x.executed) r ∙ k.executed);
      }

  pub rests-empty : f.stages.mem ≡ None → KeepsState f (stepped goes ops word t f)
  unfolding retires
  rests-empty e =
      let k = committed code f in
      let r = empty-same goes (commits f) (k.mem ∙ e) in
      record {
        state = state-after.state ∙ (ap state_of r ∙ k.state.state);
        executed = state-after.executed ∙ (ap (λ x. x.executed) r ∙ k.state.executed);
      } where
        empty-same : (o : Option ℕ) (g : Flight) → g.stages.mem ≡ None → retires o g ≡ g
        empty-same None g q = refl
        empty-same (Some old) g q = ap (λ m. retired old g m) q

  pub passes : (m : Slot) (old : ℕ) → IsChained code (state_of f) f → f.stages.mem ≡ Some m → goes ≡ Some old
      → (state_of (stepped goes ops word t f) ≡ passed m.instr (state_of f) old) × ((stepped goes ops word t f).executed ≡ f.executed + 1)
  unfolding retires
  passes m old h e g =
      let k = committed code f in
      let r : retires goes (commits f) ≡ retired old (commits f) (Some m) =
      ap (λ o. retired_where o (commits f)) g ∙ ap (λ o. retired old (commits f) o) (k.mem ∙ e) in
      let P : Option Slot → Type 0 = λ o. HoldsWhere code (state_of f) o in
      let held : Holds code (state_of f) m = subst P e h.in_mem in
      let Q : CoreState → Type 0 = λ s. Holds code s m in
      let st = retire-state code (commits f) m old k.wb (subst Q (sym k.state.state) held) in (
        state-after.state ∙ (ap state_of r ∙ (st ∙ ap (λ s. passed m.instr s old) k.state.state)),
        state-after.executed ∙ (ap (λ x. x.executed) r ∙ ap (λ n. n + 1) k.state.executed),
      )
