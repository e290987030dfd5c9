-- Which statuses what is due for an order has: those that tell what became of its input.
use Rattle.std.proofs.Common.{ℕ, List}
use Rattle.kmp_words.specs.Input.{meaning_of}
use Rattle.kmp_words.specs.Loaded.{image_in}
use Rattle.kmp_words.specs.declared.order.Order.{Order}
use Rattle.kmp_words.specs.declared.order.Order.TheVariants as orders
use Rattle.kmp_call.specs.Status.{IsOfInput}
use Rattle.kmp_call.specs.declared.status.Status.{Status}
use Rattle.kmp_call.proofs.CallLaws.{run_is_of_input}
use Rattle.kmp_mp.specs.Outcome.{IsDue}

pub is_of_input : (order : Order) (bytes text : List ℕ) (due : Status) → IsDue order bytes text due → IsOfInput due
is_of_input (orders.Run setup input) bytes text due is = run_is_of_input setup (image_in (meaning_of input bytes)) text due is
is_of_input (orders.Asm memory_lines) bytes text due none = absurd none
is_of_input orders.Replay bytes text due none = absurd none
is_of_input (orders.Trial setup size) bytes text due none = absurd none
