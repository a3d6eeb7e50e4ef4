-- Ledgers and their names.
use Rattle.std.specs.Prelude.{◌≡◌, ℕ, [], None}
use Rattle.std.specs.declared.sync.ledger.Blank.{Blank}
use Rattle.ocpi_types.specs.declared.config.Config.{Config}

-- the new ledger is that of a name, cut into the parts that the name tells, of which there are so many
pub record IsLedgerOf (blank : Blank) (name parts all count : ℕ) : Type 0 where
  pub name_is : blank.name ≡ name
  pub parts_are : blank.parts ≡ parts
  pub all_are : all ≡ parts
  pub count_is : count ≡ parts

-- a configuration of nothing, which stands where no house is

abbrev pub no_config : Config
no_config = record {
  tolerance = 0;
  currencies = [];
  operators = [];
  providers = [];
  platforms = [];
  limits = record { cdrs = 0; tariffs = 0; entries = 0; order = 0; periods = 0 };
  pair_limits = [];
  credit_window = None;
}
