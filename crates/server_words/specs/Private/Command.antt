-- The command that reads the words, as the crate `clap` defines commands.
use Rattle.std.specs.Prelude.{true, List, [], ◌∷◌, Option, Some, None, codes}
use Rattle.clap.specs.Simple.{App, new_app, new_rule, on_top, with_rule}
use Rattle.clap.specs.Walk.{Rule, Text}
use Rattle.clap.specs.declared.builder.ArgAction.TheVariants.{Set}

-- a text that has to be there
abbrev pub required_text : Text → Rule
required_text id = record (new_rule id) { action = Some Set; required = true }

-- a command without flags, subcommands and a program's name
abbrev pub bare : Text → App
bare name = on_top (λ top. record top {
  no_binary_name = true;
  disable_help_flag = true;
  disable_version_flag = true;
  disable_help_subcommand = true;
}) (new_app name)

-- such a command, of an address and a number
abbrev pub two_texts : App
two_texts =
    with_rule (with_rule (bare (codes "corsserve")) (required_text (codes "address"))) (required_text (codes "number"))

-- the words, where they are two
abbrev pub two_of : List Text → Option (Text × Text)
two_of (first ∷ second ∷ []) = Some (first, second)
two_of _ = None
