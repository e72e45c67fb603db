mod Beginning
pub mod Bodies
