pub mod CdrText
pub mod Ratable
pub mod Rate
pub mod check_config
pub mod explain_cost
pub mod re_rate
