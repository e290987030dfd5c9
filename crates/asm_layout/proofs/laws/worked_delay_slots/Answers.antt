use Rattle.std.proofs.Common.{refl}
use Rattle.asm_layout.proofs.laws.worked_delay_slots.Goals as goal

pub returns : goal.returns
returns c = record {
  law = record {
    branch_two = refl;
    branch_zero = refl;
    jump = refl;
    jump_register = refl;
    jump_link = refl;
    branch_to_label = refl;
    jump_to_label = refl;
    no_branch = refl;
    behind_li = refl;
    address = refl;
    none_of_code_between = refl;
    one_word_between = refl;
    each = refl;
  };
}
