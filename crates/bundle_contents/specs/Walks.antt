-- What walks through the lines of a file and through packed attributes have left, and what they look for.
use Rattle.std.specs.Prelude.{ℕ, ◌-◌, cond, Option, Some, None, List, [], ◌∷◌}
use Rattle.slices.specs.Same.{same_list}
use Rattle.bundle_rules.specs.Bundle.{key_id_in, Line, lines_from, packed}
use Rattle.bundle_contents.specs.declared.lines.Line as read
use Rattle.bundle_contents.specs.declared.lines.Lines.{Lines}
use Rattle.bundle_contents.specs.declared.bodies.Body.{Body}
use Rattle.bundle_contents.specs.declared.bodies.Bodies.{Bodies}

-- a line as it was read, and the lines that are left
abbrev pub line_of : read.Line → Line
line_of l = record { id = l.id.now; offset = l.offset; size = l.size }

unfoldable pub lines_left : Lines → List Line
lines_left lines = lines_from lines.file.now lines.at (lines.count - lines.at)

-- the bytes of an attribute, and the attributes that are left
abbrev pub bytes_of : Body → List ℕ
bytes_of body = body.bytes.now

abbrev pub bodies_left : Bodies → List (List ℕ)
bodies_left bodies = packed bodies.bytes.now

-- the first of some attributes that has a Key ID
unfoldable pub first_with : List ℕ → List (List ℕ) → Option (List ℕ)
first_with id [] = None
first_with id (b ∷ bodies) = cond (same_list (key_id_in b) id) (Some b) (first_with id bodies)
