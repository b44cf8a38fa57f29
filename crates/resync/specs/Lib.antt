pub mod Next
pub mod UnderWay
