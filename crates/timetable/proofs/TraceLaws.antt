-- A core by itself that goes on by one instruction more, and one whose accesses find more behind.
use Rattle.std.proofs.Common.{◌≡◌, ℕ, refl, ap, sym, ◌∙◌, List, [], ◌∷◌, ◌++◌}
use Rattle.std.specs.Prelude.{zero, suc, Option, Some, None}
use Rattle.std.specs.Option.{option_and_then}
use Rattle.std_laws.proofs.OptionLaws.{option_and_then-Some}
use Rattle.mips_isa.specs.declared.Instr.{Instr}
use Rattle.mips_isa.specs.declared.CoreState.{CoreState}
use Rattle.mips_isa.specs.declared.Next.{Next}
use Rattle.mips_isa.specs.declared.Next.TheVariants.{Stops, Asks, Goes}
use Rattle.mips_isa.specs.Steps.{next_of}
use Rattle.timetable.specs.Trace.{Walk, walk_by, walks, instr_on, trace}

same_walk : (v w : Walk) → Some v ≡ Some w → v ≡ w
same_walk v w e = cc

-- Where more is to be found behind.
abbrev with_olds : List ℕ → Walk → Walk
with_olds more w = record { state = w.state; olds = w.olds ++ more }

by-with : (code : List ℕ) (s : CoreState) (olds more : List ℕ) (next : Next) (w : Walk) → walk_by code s olds next ≡ Some w
    → walk_by code s (olds ++ more) next ≡ Some (with_olds more w)
by-with code s olds more (Goes state) w e =
    let is : record { state = state; olds = olds } ≡ w = same_walk _ _ e in ap (λ (v : Walk). Some (with_olds more v)) is
by-with code s [] more (Asks access) w e = cc
by-with code s (old ∷ olds) more (Asks access) w e = (let is = same_walk _ _ e in ap (λ (v : Walk). Some (with_olds more v)) is)
by-with code s olds more (Stops why) w e = cc

module _ (code : List ℕ) (bytes : ℕ) where
  -- Behind the instruction that comes next.
  abbrev step : CoreState → List ℕ → Option Walk
  step s olds = walk_by code s olds (next_of code bytes s)

  -- So many instructions more, and what they are.
  abbrev and_walks : ℕ → Option Walk → Option Walk
  and_walks n o = option_and_then (λ (w : Walk). walks code bytes n w.state w.olds) o

  abbrev rest : ℕ → Option Walk → List (Option Instr)
  rest n None = []
  rest n (Some w) = trace code bytes n w.state w.olds

  walks-zero : (s : CoreState) (olds : List ℕ) → walks code bytes zero s olds ≡ Some (record { state = s; olds = olds })
  unfolding walks
  walks-zero s olds = refl

  walks-suc : (n : ℕ) (s : CoreState) (olds : List ℕ) → walks code bytes (suc n) s olds ≡ and_walks n (step s olds)
  unfolding walks
  walks-suc n s olds = refl

  pub trace-zero : (s : CoreState) (olds : List ℕ) → trace code bytes zero s olds ≡ []
  unfolding trace
  trace-zero s olds = refl

  trace-suc : (n : ℕ) (s : CoreState) (olds : List ℕ) → trace code bytes (suc n) s olds ≡ instr_on code s.dpc ∷ rest n (step s olds)
  unfolding trace
  trace-suc n s olds = refl

  rest-zero : (o : Option Walk) → rest zero o ≡ []
  rest-zero None = refl
  rest-zero (Some w) = trace-zero w.state w.olds

  -- Behind no instruction a core stands where it stood.
  pub stands : (s : CoreState) (olds : List ℕ) (w : Walk) → walks code bytes zero s olds ≡ Some w
      → record { state = s; olds = olds } ≡ w
  stands s olds w e = same_walk _ _ (sym (walks-zero s olds) ∙ e)

  -- One instruction more: where the core stands then.
  more-case : (n : ℕ) (o : Option Walk) (w : Walk)
      → ((v : Walk) → walks code bytes n v.state v.olds ≡ Some w → walks code bytes (suc n) v.state v.olds ≡ step w.state w.olds)
      → and_walks n o ≡ Some w → and_walks (suc n) o ≡ step w.state w.olds
  more-case n None w k e = cc
  more-case n (Some v) w k e = k v e

  pub walks-more : (n : ℕ) (s : CoreState) (olds : List ℕ) (w : Walk) → walks code bytes n s olds ≡ Some w
      → walks code bytes (suc n) s olds ≡ walk_by code w.state w.olds (next_of code bytes w.state)
  unfolding walks
  walks-more zero s olds w e = option_and_then-Some (step s olds) ∙ ap (λ (v : Walk). step v.state v.olds) (stands s olds w e)
  walks-more (suc n) s olds w e = more-case n (step s olds) w (λ v h. walks-more n v.state v.olds w h) e

  -- One instruction more: which one it is.
  trace-case : (n : ℕ) (o : Option Walk) (w : Walk)
      → ((v : Walk) → walks code bytes n v.state v.olds ≡ Some w
      → trace code bytes (suc n) v.state v.olds ≡ trace code bytes n v.state v.olds ++ instr_on code w.state.dpc ∷ [])
      → and_walks n o ≡ Some w → rest (suc n) o ≡ rest n o ++ instr_on code w.state.dpc ∷ []
  trace-case n None w k e = cc
  trace-case n (Some v) w k e = k v e

  pub trace-more : (n : ℕ) (s : CoreState) (olds : List ℕ) (w : Walk) → walks code bytes n s olds ≡ Some w
      → trace code bytes (suc n) s olds ≡ trace code bytes n s olds ++ instr_on code w.state.dpc ∷ []
  trace-more zero s olds w e =
      trace-suc zero s olds ∙ (ap (λ l. instr_on code s.dpc ∷ l) (rest-zero (step s olds))
      ∙ (ap (λ (v : Walk). instr_on code v.state.dpc ∷ []) (stands s olds w e)
      ∙ sym (ap (λ l. l ++ instr_on code w.state.dpc ∷ []) (trace-zero s olds))))
  trace-more (suc n) s olds w e =
      let more = trace-case n (step s olds) w (λ v h. trace-more n v.state v.olds w h) (sym (walks-suc n s olds) ∙ e) in
      trace-suc (suc n) s olds ∙ (ap (λ l. instr_on code s.dpc ∷ l) more
      ∙ sym (ap (λ l. l ++ instr_on code w.state.dpc ∷ []) (trace-suc n s olds)))

  -- What is found behind stays to be found.
  pub record WalksWith (n : ℕ) (s : CoreState) (olds more : List ℕ) (w : Walk) : Type 0 where
    pub walks_too : walks code bytes n s (olds ++ more) ≡ Some (record { state = w.state; olds = w.olds ++ more })
    pub trace_too : trace code bytes n s (olds ++ more) ≡ trace code bytes n s olds

  with-case : (n : ℕ) (s : CoreState) (olds more : List ℕ) (w : Walk) (o : Option Walk) → step s olds ≡ o
      → ((v : Walk) → walks code bytes n v.state v.olds ≡ Some w → WalksWith n v.state v.olds more w) → and_walks n o ≡ Some w
      → WalksWith (suc n) s olds more w
  with-case n s olds more w None is k e = cc
  with-case n s olds more w (Some v) is k e =
      let there = by-with code s olds more (next_of code bytes s) v is in
      let h = k v e in
      record {
        walks_too = walks-suc n s (olds ++ more) ∙ (ap (and_walks n) there ∙ h.walks_too);
        trace_too = trace-suc n s (olds ++ more) ∙ (ap (λ o. instr_on code s.dpc ∷ rest n o) there
            ∙ (ap (λ l. instr_on code s.dpc ∷ l) h.trace_too
            ∙ sym (trace-suc n s olds ∙ ap (λ o. instr_on code s.dpc ∷ rest n o) is)));
      }

  pub walks-with : (n : ℕ) (s : CoreState) (olds more : List ℕ) (w : Walk) → walks code bytes n s olds ≡ Some w
      → WalksWith n s olds more w
  walks-with zero s olds more w e = record {
    walks_too = walks-zero s (olds ++ more) ∙ ap (λ (v : Walk). Some (with_olds more v)) (stands s olds w e);
    trace_too = trace-zero s (olds ++ more) ∙ sym (trace-zero s olds);
  }
  walks-with (suc n) s olds more w e =
      with-case n s olds more w (step s olds) refl (λ v h. walks-with n v.state v.olds more w h) (sym (walks-suc n s olds) ∙ e)
