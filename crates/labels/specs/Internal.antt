-- What only the contracts of private functions need. Nothing here has to be believed.
use Rattle.std.specs.Prelude.{ℕ, ⊤, Bool, cond, List, length, Option, None, Some, Result, Ok, Err}
use Rattle.refusal.specs.Checks.{within}
use Rattle.labels.specs.declared.charset.ByteSet.{ByteSet}
use Rattle.labels.specs.declared.charset.ByteSet.TheVariants.{Label, Server, Domain}
use Rattle.labels.specs.declared.charset.TextFault.{TextFault}
use Rattle.labels.specs.declared.charset.TextFault.TheVariants.{WrongLength, BadByte}
use Rattle.labels.specs.Bytes.{label_byte, server_byte, domain_byte, first_bad}

-- the test of a byte of each set
abbrev pub byte_in : ByteSet → ℕ → Bool
byte_in Label = label_byte
byte_in Server = server_byte
byte_in Domain = domain_byte

-- what a scan for the first bad byte says of a text of the right length
abbrev pub scan_form : Option ℕ → Result ⊤ TextFault
scan_form None = Ok tt
scan_form (Some i) = Err (BadByte i)

-- a text that should have 1 to `longest` bytes, each of which passes the test: its length first, then its first bad byte
unfoldable pub text_form : (ℕ → Bool) → ℕ → List ℕ → Result ⊤ TextFault
text_form p longest s = cond (within 1 longest (length s)) (scan_form (first_bad p s)) (Err WrongLength)
