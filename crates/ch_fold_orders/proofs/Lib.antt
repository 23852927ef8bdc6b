pub mod FirstLaws
pub mod Beaten
pub mod TopLaws
pub mod SkylineLaws
