-- Hash expressions collected one by one.
use Rattle.std.specs.Prelude.{List, [], ◌∷◌, ◌++◌, Option, Some, None}
use Rattle.policy_integrity.specs.declared.metadata.HashExpression.{HashExpression}

-- the hash expressions found and one more, where there is one
abbrev pub with_found : Option HashExpression → List HashExpression → List HashExpression
with_found None found = found
with_found (Some hash) found = found ++ hash ∷ []
