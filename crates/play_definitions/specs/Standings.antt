-- Where a run stands: what it goes by, the world outside of it, and how far it has come inside (this project's own).
use Rattle.std.specs.Prelude.{ℕ, ◌*◌, ◌+◌, ◌≡◌, ◌≤◌}
use Rattle.play_definitions.specs.declared.lent.Lent.{Lent}
use Rattle.play_definitions.specs.declared.player.Player.{Player}
use Rattle.play_definitions.specs.Words.{Account, IsAtEnd, IsClient, LinkTold, Progress, Setting, most_asks}
use Rattle.play_definitions.specs.Words.{most_fetches, setting}
use Rattle.play_definitions.specs.Worlds.{World, most_calls, world_of}

-- What a run goes by: what its fetches have in common, how many bytes a body may have, and the document's number.
pub record Terms : Type 0 where
  pub setting : Setting
  pub limit : ℕ
  pub document : ℕ

-- These, the world outside, and the run inside.
pub record Standing (State : Type 0) : Type 0 where
  pub terms : Terms
  pub world : World State
  pub progress : Progress

-- No more fetches and loads have started than may, the calls that are left suffice for those that may still start, and
-- nothing is to come over the link.
pub record MayGoOn {State : Type 0} (old : Standing State) : Type 0 where
  pub calls : most_calls ≤ old.world.left + old.progress.fetches * most_asks
  pub fetches : old.progress.fetches ≤ most_fetches
  pub rests : IsAtEnd old.world.exchange.left

-- The fetches and loads that have started between two moments have made no more calls, all together, than so many may,
-- and no more have started than may.
pub record HasSpent {State : Type 0} (old new : Standing State) : Type 0 where
  pub calls : old.world.left + old.progress.fetches * most_asks ≤ new.world.left + new.progress.fetches * most_asks
  pub fetches : new.progress.fetches ≤ most_fetches

-- ---- one value that plays

-- what its fetches have in common
abbrev pub lent_setting : {S : Type 0} → Lent S → Setting
lent_setting lent = setting lent.client.now lent.policies.now lent.cookies.now

-- what it goes by
abbrev pub terms_of : {S L P : Type 0} → (P → Account) → Player S L P → Terms
terms_of account player = record {
  setting = lent_setting player.lent.now;
  limit = player.lent.now.limit;
  document = (account player.pass.now).document;
}

module _ {S L P State : Type 0} (account : P → Account) (told : L → LinkTold State) (player : Player S L P) where
  -- the world outside
  abbrev pub world : World State
  world = world_of account told player.pass.now player.link.now player.wire.now

  -- where it stands
  abbrev pub standing : Standing State
  standing = record { terms = terms_of account player; world = world; progress = player.running.now }

-- The client is valid, and the pass is the share's.
pub record IsReady {S L P : Type 0} (belongs : S → P → Type 0) (player : Player S L P) : Type 0 where
  pub client : IsClient player.lent.now.client.now
  pub belongs_to : belongs player.lent.now.share.now player.pass.now

-- What every call leaves as it was: what is lent, which pass, link, wire and run it is, the document and the opening
-- book of the pass. The value is ready still.
pub record Keeps {S L P : Type 0} (account : P → Account) (belongs : S → P → Type 0) (old new : Player S L P)
    : Type 0 where
  pub lent : new.lent ≡ old.lent
  pub pass : new.pass.ghost_name ≡ old.pass.ghost_name
  pub link : new.link.ghost_name ≡ old.link.ghost_name
  pub wire : new.wire.ghost_name ≡ old.wire.ghost_name
  pub running : new.running.ghost_name ≡ old.running.ghost_name
  pub document : (account new.pass.now).document ≡ (account old.pass.now).document
  pub opening : (account new.pass.now).opening ≡ (account old.pass.now).opening
  pub ready : IsReady belongs new
