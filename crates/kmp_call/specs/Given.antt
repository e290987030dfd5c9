-- The words of a call as the system hands them over.
use Rattle.std.specs.Prelude.{◌≡◌, ◌≢◌, ◌⊎◌}
use Rattle.std.specs.IoError.{error_kind}
use Rattle.std.specs.declared.io.Error.{Error}
use Rattle.std.specs.declared.io.ErrorKind.TheVariants.{OutOfMemory}
use Rattle.kmp_call.specs.declared.status.Status.{Status}
use Rattle.kmp_call.specs.declared.status.Status.TheVariants.{NoMemory, WordsUnreadable}

-- The status where the system withholds the words: it had no memory for them, or one of them is no text.
abbrev pub IsWithheld : Error → Status → Type 0
IsWithheld error status =
    ((error_kind error ≡ OutOfMemory) × (status ≡ NoMemory)) ⊎ ((error_kind error ≢ OutOfMemory) × (status ≡ WordsUnreadable))
