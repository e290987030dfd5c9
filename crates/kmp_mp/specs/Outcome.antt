-- What is due for the order of kmp_mp.
use Rattle.std.specs.Prelude.{ℕ, List}
use Rattle.kmp_words.specs.Input.{meaning_of}
use Rattle.kmp_words.specs.Loaded.{image_in}
use Rattle.kmp_words.specs.declared.order.Order.{Order}
use Rattle.kmp_words.specs.declared.order.Order.TheVariants as orders
use Rattle.kmp_call.specs.Outcome.{IsRunDue}
use Rattle.kmp_call.specs.declared.status.Status.{Status}

-- What is due for a run and the bytes of its input. No words ask for another order.
abbrev pub IsDue : Order → List ℕ → List ℕ → Status → Type 0
IsDue (orders.Run setup input) bytes = IsRunDue setup (image_in (meaning_of input bytes))
IsDue other bytes = λ text due. ⊥
