-- The failure of a device.
use Rattle.std.specs.Prelude.{Bool, true, if◌then◌else◌, Result, is_err}

-- whether a device has failed after a call: it has if it had before, or if the call failed
abbrev pub failed_after : {T E : Type 0} → Bool → Result T E → Bool
failed_after before answer = if is_err answer then true else before
