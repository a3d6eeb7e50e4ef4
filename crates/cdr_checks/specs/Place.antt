-- Where a member of a request is.
use Rattle.std.specs.Prelude.{ℕ}
use Rattle.ocpi_json.specs.declared.member_fault.Around.TheVariants.{Nothing, One, Two, Three, Four}
use Rattle.ocpi_json.specs.declared.name.Name.{Name}
use Rattle.ocpi_json.specs.declared.name.Name.TheVariants as name
use Rattle.ocpi_json.specs.MemberFaults.{item_of, member_of}
use Rattle.cdr_checks.specs.declared.place.Place.{Place}

-- a member of the line
abbrev pub at : Name → Place
at member = record { around = Nothing; member = member_of member }

-- a member of an object of the line
abbrev pub inside : Name → Name → Place
inside object member = record { around = One (member_of object); member = member_of member }

-- a member of an item, by its index, of a list of the CDR
abbrev pub in_item : Name → ℕ → Name → Place
in_item list index member = record { around = Two (member_of name.Cdr) (item_of list index); member = member_of member }

-- the volume of a dimension of a charging period
abbrev pub volume_at : ℕ → ℕ → Place
volume_at period dimension = record {
  around = Three (member_of name.Cdr) (item_of name.ChargingPeriods period) (item_of name.Dimensions dimension);
  member = member_of name.Volume;
}

-- a restriction of an element of the tariff that is put
abbrev pub restriction_of_tariff : ℕ → Name → Place
restriction_of_tariff element restriction = record {
  around = Three (member_of name.Tariff) (item_of name.Elements element) (member_of name.Restrictions);
  member = member_of restriction;
}

-- a restriction of an element of a tariff of the CDR
abbrev pub restriction_of_cdr : ℕ → ℕ → Name → Place
restriction_of_cdr tariff element restriction = record {
  around = Four (member_of name.Cdr) (item_of name.Tariffs tariff) (item_of name.Elements element) (member_of name.Restrictions);
  member = member_of restriction;
}

-- the cost that a CDR declares
abbrev pub declared_cost : Place
declared_cost = record { around = Two (member_of name.Cdr) (member_of name.TotalCost); member = member_of name.ExclVat }
