-- What holds of a timetable under a bound holds of it without one.
use Rattle.std.proofs.Common.{ℕ, List, [], ◌∷◌}
use Rattle.std.specs.Prelude.{Option, Some, None}
use Rattle.mips_isa.specs.declared.Instr.{Instr}
use Rattle.mips_isa.specs.declared.Kind.{Kind}
use Rattle.mips_isa.specs.Steps.{kind_at}
use Rattle.timetable.specs.declared.rows.TimeRow.{TimeRow}
use Rattle.timetable.specs.Tables.{Timed, timed, Executes, IsAnswered, IsRow, IsStopRow, IsTable, past_of}
use Rattle.timetable.specs.Ends.{EndsInStop}

executes-unbounded : (bound : Option ℕ) (past : List Timed) (instr : Option Instr) (i f d e : ℕ) → Executes bound past instr i f d e
    → Executes None past instr i f d e
executes-unbounded bound past instr i f d e h =
    let begins = h.decodes.begins in
    let taken = begins.taken in record {
      decodes = record {
        begins = record { taken = record { later = taken.later; off = taken.off; soon = tt }; leaves = begins.leaves };
        decoded = h.decodes.decoded;
      };
      executed = h.executed;
    }

answered-unbounded : (bound : Option ℕ) (kind : Option Kind) (e : ℕ) (a : Option ℕ) → IsAnswered bound kind e a → IsAnswered None kind e a
answered-unbounded bound None e a h = h
answered-unbounded bound (Some kind) e None h = h
answered-unbounded bound (Some kind) e (Some a) h = (h.0, tt)

row-unbounded : (bound : Option ℕ) (past : List Timed) (instr : Option Instr) (row : TimeRow) → IsRow bound past instr row
    → IsRow None past instr row
row-unbounded bound past instr row h = record {
  executes = executes-unbounded bound past instr row.i row.f row.d row.e h.executes;
  a = answered-unbounded bound (kind_at instr) row.e row.a h.a;
  m = h.m;
  w = h.w;
}

pub table-unbounded : (bound : Option ℕ) (past : List Timed) (instrs : List (Option Instr)) (rows : List TimeRow)
    → IsTable bound past instrs rows → IsTable None past instrs rows
table-unbounded bound past [] [] h = tt
table-unbounded bound past [] (row ∷ rows) h = absurd h
table-unbounded bound past (instr ∷ instrs) [] h = absurd h
table-unbounded bound past (instr ∷ instrs) (row ∷ rows) h =
    (row-unbounded bound past instr row h.0, table-unbounded bound (timed instr row ∷ past) instrs rows h.1)

pub stop-unbounded : (bound : Option ℕ) (instrs : List (Option Instr)) (instr : Option Instr) (cycles : ℕ) (rows : List TimeRow)
    → EndsInStop bound instrs instr cycles rows → EndsInStop None instrs instr cycles rows
stop-unbounded bound instrs instr cycles rows h =
    let row = h.row in
    let last : IsStopRow None (past_of [] instrs h.earlier) instr row = record {
      executes = executes-unbounded bound (past_of [] instrs h.earlier) instr row.i row.f row.d row.e h.last.executes;
      a = h.last.a;
      m = h.last.m;
      w = h.last.w;
    } in
    record {
      earlier = h.earlier;
      row = row;
      are = h.are;
      table = table-unbounded bound [] instrs h.earlier h.table;
      last = last;
      at = h.at;
    }
