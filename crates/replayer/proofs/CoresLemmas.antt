-- The rows of the cores, one after another: the cores behind have not moved yet.
use Rattle.std.proofs.Common.{◌≡◌, ℕ, ◌+◌, ◌*◌, ◌<◌, List, ◌++◌, length, drop, Option, Some, None, refl, sym, ap, ◌∙◌, arith, add-zero}
use Rattle.std.specs.Prelude.{slice_get}
use Rattle.std.proofs.lemmas.List.{drop-drop, drop-set-lt, length-set}
use Rattle.std_laws.proofs.ListLaws.{slice_get_some, slice_get-drop, drop-slice_get}
use Rattle.kmp_base.specs.declared.setup.Setup.{Setup}
use Rattle.image_file.specs.Value.{ImageValue}
use Rattle.access_log.specs.declared.Core.{Core}
use Rattle.access_log.specs.declared.Entry.{Entry}
use Rattle.access_log.specs.Replay.{FlatMachine, with_core, own}
use Rattle.report_rows.specs.Ends.{EndValue}
use Rattle.row_check.specs.declared.difference.Difference.{Difference}
use Rattle.row_check.specs.Judgments.{Judgment, first_told}
use Rattle.replayer.specs.Cores.{core_to, core_judged, cores_judged}
use Rattle.replayer.proofs.JudgeLemmas.{first_before, first_behind}

-- The rows of the cores below an index don't differ. These have caught up, and the others stand where they stood.
pub record SoFar (first_line : ℕ) (setup : Setup) (image : ImageValue) (order : List Entry) (ends : List EndValue)
    (start now : FlatMachine) (line index : ℕ) : Type 0 where
  pub line_is : line ≡ first_line + 5 * index
  pub code : now.code ≡ start.code
  pub memory : now.memory ≡ start.memory
  pub count : length now.cores ≡ length start.cores
  pub rest : drop index now.cores ≡ drop index start.cores
  pub judged : first_told (cores_judged line setup image start order index (drop index ends) (drop index start.cores))
      ≡ first_told (cores_judged first_line setup image start order 0 ends start.cores)

-- the judgments of a core, and those of the cores behind it
abbrev here : ℕ → Setup → ImageValue → FlatMachine → List Entry → ℕ → EndValue → Core → List Judgment
here line setup image machine order index kept core =
    core_judged line setup image index (own order index) kept (core_to machine kept.retired core)

abbrev behind : ℕ → Setup → ImageValue → FlatMachine → List Entry → ℕ → List EndValue → List Judgment
behind line setup image machine order index ends =
    cores_judged (line + 5) setup image machine order (index + 1) (drop (index + 1) ends) (drop (index + 1) machine.cores)

cores_at : (line : ℕ) (setup : Setup) (image : ImageValue) (machine : FlatMachine) (order : List Entry) (ends : List EndValue)
    (cores : List Core) (index : ℕ) (kept : EndValue) (core : Core)
    → slice_get ends index ≡ Some kept → slice_get cores index ≡ Some core
    → cores_judged line setup image machine order index (drop index ends) (drop index cores)
    ≡ here line setup image machine order index kept core
    ++ cores_judged (line + 5) setup image machine order (index + 1) (drop (index + 1) ends) (drop (index + 1) cores)
cores_at line setup image machine order ends cores index kept core kept_is core_is =
    rw (drop-slice_get ends index kept kept_is, drop-slice_get cores index core core_is) refl

-- by the machine's code and memory alone
here_same : (line : ℕ) (setup : Setup) (image : ImageValue) (start now : FlatMachine) (order : List Entry) (index : ℕ) (kept : EndValue)
    (core : Core)
    → now.code ≡ start.code → now.memory ≡ start.memory
    → here line setup image now order index kept core ≡ here line setup image start order index kept core
here_same line setup image start now order index kept core code_is memory_is = rw (code_is, memory_is) refl

-- the core at an index stands where it stood
same_at : (start now : FlatMachine) (index : ℕ) → drop index now.cores ≡ drop index start.cores
    → slice_get now.cores index ≡ slice_get start.cores index
same_at start now index rest =
    sym (rw add-zero at (slice_get-drop index now.cores 0))
    ∙ (ap (λ (cores : List Core). slice_get cores 0) rest ∙ rw add-zero at (slice_get-drop index start.cores 0))

-- what is told of the core at an index is the first difference of its judgments
abbrev pub Told : Option Difference → ℕ → Setup → ImageValue → List Entry → List EndValue → FlatMachine → ℕ → Type 0
Told told line setup image order ends now index =
    (kept : EndValue) → (core : Core) → slice_get ends index ≡ Some kept → slice_get now.cores index ≡ Some core
    → told ≡ first_told (here line setup image now order index kept core)

-- the judgments of the core at an index, and what is told of them
record Next (told : Option Difference) (line : ℕ) (setup : Setup) (image : ImageValue) (order : List Entry) (ends : List EndValue)
    (start : FlatMachine) (index : ℕ) : Type 0 where
  kept : EndValue
  core : Core
  told_is : told ≡ first_told (here line setup image start order index kept core)
  are : cores_judged line setup image start order index (drop index ends) (drop index start.cores)
      ≡ here line setup image start order index kept core ++ behind line setup image start order index ends

next : (told : Option Difference) (first_line : ℕ) (setup : Setup) (image : ImageValue) (order : List Entry) (ends : List EndValue)
    (start now : FlatMachine) (line index : ℕ)
    → SoFar first_line setup image order ends start now line index → index < length ends → length start.cores ≡ length ends
    → Told told line setup image order ends now index
    → Next told line setup image order ends start index
next told first_line setup image order ends start now line index so_far below count tells =
    let kept = slice_get_some ends index below in
    let core = slice_get_some start.cores index (omega arith) in
    let there : slice_get now.cores index ≡ Some core.0 = same_at start now index so_far.rest ∙ core.1 in
    record {
      kept = kept.0;
      core = core.0;
      told_is = tells kept.0 core.0 kept.1 there
          ∙ ap first_told (here_same line setup image start now order index kept.0 core.0 so_far.code so_far.memory);
      are = cores_at line setup image start order ends start.cores index kept.0 core.0 kept.1 core.1;
    }

-- a core whose rows don't differ is behind
pub so_far-more : (first_line : ℕ) (setup : Setup) (image : ImageValue) (order : List Entry) (ends : List EndValue)
    (start now new : FlatMachine) (line index : ℕ) (after : Core)
    → SoFar first_line setup image order ends start now line index → index < length ends → length start.cores ≡ length ends
    → new ≡ with_core now index after
    → Told None line setup image order ends now index → SoFar first_line setup image order ends start new (line + 5) (index + 1)
so_far-more first_line setup image order ends start now new line index after so_far below count is tells =
    let n = next None first_line setup image order ends start now line index so_far below count tells in
    let moved_rest : drop (index + 1) new.cores ≡ drop (index + 1) now.cores =
    ap (λ (m : FlatMachine). drop (index + 1) m.cores) is ∙ drop-set-lt (index + 1) now.cores index after (omega arith) in
    record {
      line_is = omega (arith, so_far.line_is);
      code = ap (λ (m : FlatMachine). m.code) is ∙ so_far.code;
      memory = ap (λ (m : FlatMachine). m.memory) is ∙ so_far.memory;
      count = ap (λ (m : FlatMachine). length m.cores) is ∙ length-set now.cores index after ∙ so_far.count;
      rest = moved_rest ∙ sym (drop-drop 1 index now.cores) ∙ ap (drop 1) so_far.rest ∙ drop-drop 1 index start.cores;
      judged = sym (first_behind (here line setup image start order index n.kept n.core) (behind line setup image start order index ends)
          (sym n.told_is)) ∙ ap first_told (sym n.are) ∙ so_far.judged;
    }

-- a core whose rows differ is the first
pub so_far-differs : (difference : Difference) (first_line : ℕ) (setup : Setup) (image : ImageValue) (order : List Entry)
    (ends : List EndValue) (start now : FlatMachine) (line index : ℕ)
    → SoFar first_line setup image order ends start now line index → index < length ends → length start.cores ≡ length ends
    → Told (Some difference) line setup image order ends now index
    → Some difference ≡ first_told (cores_judged first_line setup image start order 0 ends start.cores)
so_far-differs difference first_line setup image order ends start now line index so_far below count tells =
    let n = next (Some difference) first_line setup image order ends start now line index so_far below count tells in
    sym (first_before (here line setup image start order index n.kept n.core) (behind line setup image start order index ends) difference
    (sym n.told_is)) ∙ ap first_told (sym n.are) ∙ so_far.judged
