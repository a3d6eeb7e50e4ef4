pub mod PeriodLemmas
