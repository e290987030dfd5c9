use Rattle.std.proofs.Common.{◌≡◌, [], take, drop}
use Rattle.asm_layout.specs.Passes.{first_fault, room_test}
use Rattle.asm_layout.proofs.PlacesLaws.{StandsBehind}
use Rattle.asm_layout.proofs.room.first_without_room.Given as goal

abbrev pub invariant-loop-statement : goal.invariant-loop-statement
invariant-loop-statement l = record {
  stands : StandsBehind l.end l.statement-index l.statements l.place;
  read : first_fault (room_test l.memory l.end) (take l.statement-index l.statements) (drop l.statement-index l.statements)
      ≡ first_fault (room_test l.memory l.end) [] l.statements;
}
