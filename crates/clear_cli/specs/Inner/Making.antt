-- Answer files on their way.
use Rattle.std.specs.Prelude.{◌≡◌, ℕ, List, ◌++◌, flat_map, Option}
use Rattle.request_lines.specs.Streams.{Writing}
use Rattle.clear_cli.specs.Fault.{AreTold}
use Rattle.clear_cli.specs.Folder.{FolderWords}
use Rattle.clear_cli.specs.Opening.{Fate, GivenFile, HasFate, HaveFates, PlainNamed, named_among, named_in, pair_in, unmade_line, unmade_lines}

-- a file of this number has its fate, and what it adds to the files that are answered is added
pub record IsMade {I O V S : Type 0} (words : FolderWords O V) (writing : Writing S) (number : ℕ) (path : List ℕ) (reader : Option I)
    (folder folder' : O) (named named' : List PlainNamed) (pairs pairs' : List (I × V)) (faults faults' : S) : Type 0 where
  pub fate : Fate I V
  pub has : HasFate words number reader folder fate folder'
  pub named_is : named' ≡ named ++ named_in number path fate
  pub pairs_is : pairs' ≡ pairs ++ pair_in fate
  pub told : AreTold writing faults (unmade_line number fate) faults'

-- these files, the first of number 1, have their fates, and these are the ones that are answered
pub record AreMade {I O V S : Type 0} (words : FolderWords O V) (writing : Writing S) (files : List (GivenFile I))
    (folder folder' : O) (named : List PlainNamed) (pairs : List (I × V)) (faults faults' : S) : Type 0 where
  pub fates : List (Fate I V)
  pub have : HaveFates words 1 files folder fates folder'
  pub named_are : named ≡ named_among 1 files fates
  pub pairs_are : pairs ≡ flat_map pair_in fates
  pub told : AreTold writing faults (unmade_lines 1 fates) faults'
