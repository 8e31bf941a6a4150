-- What is known of a message that was read.
use Rattle.std.specs.Prelude.{◌≡◌, List, ℕ, Ok, Err}
use Rattle.srp.specs.Refusals.{hangs_up, conduct_of, reason_in}
use Rattle.srp.specs.Messages.{cmd}
use Rattle.srp.specs.Requests.{Reading, by_type}
use Rattle.srp.specs.declared.Message.TheVariants.{Cmd, TskMgmt, CredRsp, ILogout}
use Rattle.command.specs.Reading.{FitsIn}

-- a command lies inside its message; a bad message draws a refusal that hangs up
abbrev pub FitsMessage : List ℕ → Reading → Type 0
FitsMessage s (Err r) = conduct_of r ≡ hangs_up (reason_in (conduct_of r))
FitsMessage s (Ok (Cmd c)) = FitsIn s c
FitsMessage s (Ok (TskMgmt k)) = Unit {0}
FitsMessage s (Ok (CredRsp g)) = Unit {0}
FitsMessage s (Ok ILogout) = Unit {0}

-- a message of a type k that is no command's, read whatever the formats
abbrev pub OtherRead : (k : ℕ) (s : List ℕ) → Reading → Type 0
OtherRead k s r = ((formats : ℕ) → (k ≡ cmd.code → ⊥) → r ≡ by_type k formats s) × FitsMessage s r
